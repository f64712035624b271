-- VALC by what is reached from the cell that is named: a value is read.
use Rattle.std.proofs.Common.{◌≡◌, refl, ap, ◌∙◌, ℕ, ◌+◌, List, [], ◌∷◌, ◌++◌, Option, Some, None, Result}
use Rattle.b67_rows.proofs.Prelude.{if◌then◌else◌, ◌==◌, Read, Word, as_pcw, Pcw, Registers, Couple, Code, with_stack, Effect, gives, Image, with_stacks, with_registers, found, look_seen, Program, Change, does, effect_of, asked, see, ◌>>=◌, couple_cell, reached, invalid, value_or_entry, Cell, InterruptKind, Reached, see_found, told_by, entered_or, operator_letter, Core, with_core}
use Rattle.b67_ops.specs.declared.Operator.TheVariants as ops
use Rattle.b67_table.specs.declared.Class.TheVariants as classes
use Rattle.b67_table.specs.Rows.{row, value_call, value_pushed}
use Rattle.b67_table.specs.Table.{raw, class_at}
use Rattle.b67_letters.specs.Letters.{value_letter}
use Rattle.b67_rows.proofs.Reaching.{Reaches}
use Rattle.b67_rows.proofs.Rows.{raw_is, pushed_stack, words_are}
use Rattle.b67_rows.proofs.AtOperator.{AtOperator}

-- the core with a word more on top
abbrev pub with_top : Core → Word → ℕ → Core
with_top core w next = record core { words = w ∷ core.words; registers = record core.registers { s = core.registers.s + 1; place = next } }

module _ (code : Code) (couple : Couple) (here : AtOperator code (ops.Valc couple)) (from to : Cell) (shown : couple_cell here.core.registers couple.level couple.index ≡ Some from) (w : Word)
    (reaches : Reaches here.img.stacks from w to) where
  open here use {img, p, core, has, next}

  abbrev r : Registers
  r = core.registers

  abbrev tested : Program → Effect Image
  tested t = effect_of p img (asked img t)

  abbrev go_on : Reached → Program
  go_on v = value_or_entry r next v (as_pcw v.word)

  found_so : does p (value_call couple r next) img ≡ tested (value_or_entry r next (record { word = w; cell = to }) (as_pcw w))
  found_so =
      ap (λ (o : Option Cell). tested (see (reached o) >>= go_on)) shown
      ∙ ap (λ (x : Effect Change). effect_of p img x) (see_found img (reached (Some from)) (record { word = w; cell = to }) go_on reaches)

  pub value_reached_class : class_at (ops.Valc couple) r.place ≡ classes.Action
  unfolding class_at row
  value_reached_class = refl

  -- what the row does with what is reached
  pub value_reached : raw code img p ≡ tested (value_or_entry r next (record { word = w; cell = to }) (as_pcw w))
  unfolding row
  value_reached = raw_is code (ops.Valc couple) here ∙ found_so

  pub value_reached_letter : operator_letter (ops.Valc couple) img r ≡ Some (entered_or Read (as_pcw w))
  value_reached_letter =
      ap (λ (o : Option Cell). told_by value_letter (look_seen img.stacks (reached o))) shown
      ∙ ap (λ (x : Result Reached InterruptKind). told_by value_letter x) reaches

  -- a value is pushed
  pub value_read_raw : w.tag ≡ 0 → as_pcw w ≡ None → raw code img p ≡ gives (with_core img p (with_top core w next))
  value_read_raw tag no_pcw =
      value_reached
      ∙ ap (λ (o : Option Pcw). tested (value_or_entry r next (record { word = w; cell = to }) o)) no_pcw
      ∙ ap (λ (t : ℕ). tested (see (if t == 0 then found w else invalid) >>= (λ (v : Word). value_pushed r next v))) tag
      ∙ ap (λ (ws : List Word). gives (with_registers (with_stacks img (with_stack img.stacks r.stack ws)) p (record r { s = r.s + 1; place = next })))
      (ap (λ (ws : List Word). ws ++ w ∷ []) (words_are img p core has) ∙ pushed_stack core w)

  pub value_read_letter : as_pcw w ≡ None → operator_letter (ops.Valc couple) img r ≡ Some Read
  value_read_letter no_pcw = value_reached_letter ∙ ap (λ (o : Option Pcw). Some (entered_or Read o)) no_pcw
