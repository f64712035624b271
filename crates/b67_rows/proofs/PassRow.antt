-- LODT on the reference to a cell that has a reference itself, which comes in its place.
use Rattle.std.proofs.Common.{◌≡◌, refl, ap, ◌∙◌, ℕ, ◌+◌, ◌-◌, List, ◌∷◌, Option, Some, Bool, true, false, arith}
use Rattle.b67_rows.proofs.Prelude.{if◌then◌else◌, ◌==◌, ◌||◌, is_some, Word, Place, as_irw, as_sirw, Irw, Registers, Sirw, Code, Stacks, word_at, Effect, gives, Image, with_stacks, with_registers, Look, stops, ◌>->◌, valid, replaced, display_at, floor, Program, does, effect_of, asked, see, answer, ◌>>=◌, cell_in, irw_or_sirw, cell_of, named, reached_in, from_top, invalid, Cell, StackUnderflow, Reached, with_core}
use Rattle.b67_ops.specs.declared.Operator.TheVariants as ops
use Rattle.b67_ops.specs.declared.PlainKind.TheVariants as kinds
use Rattle.b67_table.specs.declared.Class.TheVariants as classes
use Rattle.b67_table.specs.Rows.{row, load_through, is_passed}
use Rattle.b67_table.specs.Table.{raw, class_at}
use Rattle.b67_rows.proofs.Rows.{raw_is}
use Rattle.b67_rows.proofs.StoreRow.{most_is}
use Rattle.b67_rows.proofs.TopRow.{with_other, one_long, word_on_top, top_replaced}
use Rattle.b67_rows.proofs.AtOperator.{AtOperator}

pub or_true : (b : Bool) → (b || true) ≡ true
or_true true = refl
or_true false = refl

-- a reference is passed
pub refers_passed : (w : Word) (other : Sirw) → as_sirw w ≡ Some other → is_passed w ≡ true
refers_passed w other e = ap (λ (o : Option Sirw). (w.tag == 0) || is_some o) e ∙ or_true (w.tag == 0)

module _ (code : Code) (here : AtOperator code (ops.Plain kinds.Lodt)) (x : Word) (words : List Word) (top : here.core.words ≡ x ∷ words) (level index : ℕ) (reads : as_irw x ≡ Some (record { level = level; index = index }))
    (frame : Place) (shown : display_at here.core.registers level ≡ Some frame) (w : Word) (lies : word_at here.img.stacks (record { stack = frame.stack; at = frame.at + index }) ≡ Some w) (other : Sirw)
    (refers : as_sirw w ≡ Some other) where
  open here use {img, p, core, has, next}

  abbrev r : Registers
  r = core.registers

  abbrev cell : Cell
  cell = record { frame = frame; index = index }

  abbrev tested : Program → Effect Image
  tested t = effect_of p img (asked img t)

  abbrev on_top : Word → Look Reached
  on_top u = named (cell_of r u)

  abbrev go_on : Reached → Program
  go_on v = if is_passed v.word then answer (replaced r next 1 v.word) else see invalid

  does_is : does p (load_through r next) img ≡ gives (with_core img p (with_other core w words next))
  does_is =
      ap (λ (b : Bool). tested (see ((if b then from_top r 0 else stops StackUnderflow) >-> on_top) >>= go_on)) (most_is (floor r + 1) r.s (omega (arith, one_long img p core has x words top, has.is.bottom)))
      ∙ ap (λ (o : Option Word). tested (see (valid o >-> on_top) >>= go_on)) (word_on_top img p core has x words top)
      ∙ ap (λ (i : Option Irw). tested (see (named (irw_or_sirw r i (as_sirw x))) >>= go_on)) reads
      ∙ ap (λ (o : Option Place). tested (see (named (cell_in o index)) >>= go_on)) shown
      ∙ ap (λ (o : Option Word). tested (see (reached_in cell o) >>= go_on)) lies
      ∙ ap (λ (b : Bool). tested (if b then answer (replaced r next 1 w) else see invalid)) (refers_passed w other refers)
      ∙ ap (λ (ss : Stacks). gives (with_registers (with_stacks img ss) p (record r { s = r.s - 1 + 1; place = next }))) (top_replaced img p core has x words top w)

  pub pass_raw : raw code img p ≡ gives (with_core img p (with_other core w words next))
  unfolding row
  pass_raw = raw_is code (ops.Plain kinds.Lodt) here ∙ does_is

  pub pass_class : class_at (ops.Plain kinds.Lodt) r.place ≡ classes.Action
  unfolding class_at row
  pass_class = refl
