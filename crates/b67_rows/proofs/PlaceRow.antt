-- EVAL by what is reached from the cell that is named: of a value the cell is left, and code that gives no place is a fault.
use Rattle.std.proofs.Common.{◌≡◌, refl, ap, ◌∙◌, ℕ, ◌+◌, ◌-◌, ◌≤◌, List, ◌∷◌, Option, Some, None, Bool, false, Result, arith}
use Rattle.b67_rows.proofs.Prelude.{if◌then◌else◌, ◌==◌, NotAVariable, Resolve, Word, as_pcw, Pcw, Registers, Code, Stacks, Effect, gives, faults, Image, with_stacks, with_registers, accidental, Look, found, stops, ◌>->◌, valid, look_seen, replaced, floor, Program, Change, answer, fault, does, effect_of, asked, see, ◌>>=◌, cell_word, cell_of, reached, from_top, invalid, cell_or_entry, Cell, InterruptKind, StackUnderflow, Reached, see_found, told_by, entered_or, operator_letter, with_core}
use Rattle.b67_ops.specs.declared.Operator.TheVariants as ops
use Rattle.b67_ops.specs.declared.PlainKind.TheVariants as kinds
use Rattle.b67_table.specs.declared.Class.TheVariants as classes
use Rattle.b67_table.specs.Rows.{row, evaluate}
use Rattle.b67_table.specs.Table.{raw, class_at}
use Rattle.b67_letters.specs.Letters.{place_letter}
use Rattle.b67_rows.proofs.Reaching.{Reaches}
use Rattle.b67_rows.proofs.Rows.{raw_is}
use Rattle.b67_rows.proofs.StoreRow.{most_is}
use Rattle.b67_rows.proofs.TopRow.{with_other, one_long, word_on_top, top_replaced}
use Rattle.b67_rows.proofs.AtOperator.{AtOperator}

module _ (code : Code) (here : AtOperator code (ops.Plain kinds.Eval)) (x : Word) (words : List Word) (top : here.core.words ≡ x ∷ words) (from to : Cell) (names : cell_of here.core.registers x ≡ Some from) (w : Word)
    (reaches : Reaches here.img.stacks from w to) where
  open here use {img, p, core, has, next}

  abbrev r : Registers
  r = core.registers

  abbrev tested : Program → Effect Image
  tested t = effect_of p img (asked img t)

  abbrev go_on : Reached → Program
  go_on v = cell_or_entry r next v (as_pcw v.word)

  abbrev on_top : Word → Look Reached
  on_top u = reached (cell_of r u)

  high : floor r + 1 ≤ r.s
  high = omega (arith, one_long img p core has x words top, has.is.bottom)

  found_so : does p (evaluate r next) img ≡ tested (cell_or_entry r next (record { word = w; cell = to }) (as_pcw w))
  found_so =
      ap (λ (b : Bool). tested (see ((if b then from_top r 0 else stops StackUnderflow) >-> on_top) >>= go_on)) (most_is (floor r + 1) r.s high)
      ∙ ap (λ (o : Option Word). tested (see (valid o >-> on_top) >>= go_on)) (word_on_top img p core has x words top)
      ∙ ap (λ (o : Option Cell). tested (see (reached o) >>= go_on)) names
      ∙ ap (λ (e : Effect Change). effect_of p img e) (see_found img (reached (Some from)) (record { word = w; cell = to }) go_on reaches)

  pub place_reached_class : class_at (ops.Plain kinds.Eval) r.place ≡ classes.Action
  unfolding class_at row
  place_reached_class = refl

  pub place_reached : raw code img p ≡ tested (cell_or_entry r next (record { word = w; cell = to }) (as_pcw w))
  unfolding row
  place_reached = raw_is code (ops.Plain kinds.Eval) here ∙ found_so

  pub place_reached_letter : operator_letter (ops.Plain kinds.Eval) img r ≡ Some (entered_or Resolve (as_pcw w))
  place_reached_letter =
      ap (λ (b : Bool). told_by place_letter (look_seen img.stacks ((if b then from_top r 0 else stops StackUnderflow) >-> on_top))) (most_is (floor r + 1) r.s high)
      ∙ ap (λ (o : Option Word). told_by place_letter (look_seen img.stacks (valid o >-> on_top))) (word_on_top img p core has x words top)
      ∙ ap (λ (o : Option Cell). told_by place_letter (look_seen img.stacks (reached o))) names
      ∙ ap (λ (e : Result Reached InterruptKind). told_by place_letter e) reaches

  -- of a value the reference to its cell comes in place of the one on top
  pub place_left_raw : w.tag ≡ 0 → as_pcw w ≡ None → raw code img p ≡ gives (with_core img p (with_other core (cell_word to) words next))
  place_left_raw tag no_pcw =
      place_reached
      ∙ ap (λ (o : Option Pcw). tested (cell_or_entry r next (record { word = w; cell = to }) o)) no_pcw
      ∙ ap (λ (t : ℕ). tested (see (if t == 0 then found w else invalid) >>= (λ (v : Word). answer (replaced r next 1 (cell_word to))))) tag
      ∙ ap (λ (ss : Stacks). gives (with_registers (with_stacks img ss) p (record r { s = r.s - 1 + 1; place = next }))) (top_replaced img p core has x words top (cell_word to))

  pub place_left_letter : as_pcw w ≡ None → operator_letter (ops.Plain kinds.Eval) img r ≡ Some Resolve
  place_left_letter no_pcw = place_reached_letter ∙ ap (λ (o : Option Pcw). Some (entered_or Resolve o)) no_pcw

  -- code that gives no place is a fault
  pub no_place_raw : (c : Pcw) → as_pcw w ≡ Some c → c.names ≡ false → raw code img p ≡ faults NotAVariable
  no_place_raw c reads no_names =
      place_reached
      ∙ ap (λ (o : Option Pcw). tested (cell_or_entry r next (record { word = w; cell = to }) o)) reads
      ∙ ap (λ (b : Bool). tested (if b then accidental r next 1 c to.frame 1 else fault NotAVariable)) no_names
