-- RETN of a frame that is not the base frame, with an operand on top, which it gives back.
use Rattle.std.proofs.Common.{◌≡◌, refl, ap, ◌∙◌, ℕ, ◌+◌, ◌-◌, List, [], ◌∷◌, ◌++◌, length, Option, Some, Bool, true, false, arith}
use Rattle.b67_rows.proofs.Prelude.{nat_tests, if◌then◌else◌, nat_eq, not, ◌&&◌, ◌==◌, slice_get, reverse, CriticalBlockExit, Word, Registers, Code, word_at, place, Effect, gives, faults, Image, is_critical, leave, stops, valid, floor, frame, Program, does, effect_of, asked, see, ◌>>=◌, live_criticals, from_top, invalid, table, StackUnderflow, letter}
use Rattle.b67_deeds.specs.declared.Letter.TheVariants as act
use Rattle.b67_ops.specs.declared.Operator.TheVariants as ops
use Rattle.b67_ops.specs.declared.PlainKind.TheVariants as kinds
use Rattle.b67_table.specs.declared.Class.TheVariants as classes
use Rattle.b67_table.specs.Outcome as outcomes
use Rattle.b67_table.specs.Rows.{row, is_result, return_value}
use Rattle.b67_table.specs.Table.{raw, class_at}
use Rattle.b67_rows.proofs.LeaveRow.{not_zero, after, leave_does, leave_blocked, LeavesHere}
use Rattle.b67_rows.proofs.Rows.{raw_is, words_are, action_is}
use Rattle.b67_rows.proofs.StackWords.{word_over}
use Rattle.b67_rows.proofs.StoreRow.{most_is}
use Rattle.b67_rows.proofs.AtOperator.{AtOperator}

zero_is : (n : ℕ) → n ≡ 0 → (n == 0) ≡ true
zero_is n e = grind (arith, e, nat_tests)

-- an operand may be given back
pub operand_given : (x : Word) → x.tag ≡ 0 → is_result x ≡ true
operand_given x tag = rw (zero_is x.tag tag) refl

module _ (code : Code) (here : AtOperator code (ops.Plain kinds.Retn)) (leaves : LeavesHere here.img here.core) (x : Word) (rest : List Word) (on_top : here.core.words ≡ x ∷ rest) (result : is_result x ≡ true) where
  open leaves use {below, words, leaves as e}
  open here use {img, p, core, has, next}

  abbrev r : Registers
  r = core.registers

  abbrev tested : Program → Effect Image
  tested t = effect_of p img (asked img t)

  abbrev f : ℕ
  f = length (below ++ reverse words)

  top_word : word_at img.stacks (place r.stack (r.s - (0 + 1))) ≡ Some x
  top_word =
      ap (λ (ws : List Word). slice_get ws (r.s - (0 + 1))) (words_are img p core has ∙ ap (λ (ws : List Word). core.below ++ reverse ws) on_top)
      ∙ word_over core.below x rest (r.s - (0 + 1)) (omega (arith, has.is.top, ap length on_top))

  abbrev on_word : Word → Program
  on_word y = if is_result y && not (nat_eq (frame r) 0) then leave r next (y ∷ []) else see invalid

  abbrev pub returned : Image
  returned = after code img p core has next leaves (Some x)

  return_tests : does p (return_value r next) img ≡ tested (leave r next (x ∷ []))
  return_tests =
      ap (λ (t : Bool). tested (see (if t then from_top r 0 else stops StackUnderflow) >>= on_word)) (most_is (floor r + 1) r.s (omega (arith, has.is.bottom, has.is.top, ap length on_top)))
      ∙ ap (λ (o : Option Word). tested (see (valid o) >>= on_word)) top_word
      ∙ ap (λ (t : Bool). tested (if is_result x && not t then leave r next (x ∷ []) else see invalid)) (ap (λ (n : ℕ). nat_eq n 0) e.frame_is ∙ not_zero f e.some)
      ∙ ap (λ (t : Bool). tested (if t && true then leave r next (x ∷ []) else see invalid)) result

  pub return_raw : is_critical core.registers.stack (length (below ++ reverse words) ∷ []) (live_criticals img.states img.regs) ≡ false → raw code img p ≡ gives returned
  unfolding row
  return_raw free = raw_is code (ops.Plain kinds.Retn) here ∙ return_tests ∙ leave_does code img p core has next leaves (Some x) free

  pub return_blocked : is_critical core.registers.stack (length (below ++ reverse words) ∷ []) (live_criticals img.states img.regs) ≡ true → raw code img p ≡ faults CriticalBlockExit
  unfolding row
  return_blocked critical = raw_is code (ops.Plain kinds.Retn) here ∙ return_tests ∙ leave_blocked code img p core has next leaves (Some x) critical

  pub return_class : class_at (ops.Plain kinds.Retn) r.place ≡ classes.Action
  unfolding class_at row
  return_class = refl

  pub return_action : table code img p ≡ outcomes.gives returned → letter code img p ≡ Some act.Leave
  return_action t = action_is code (ops.Plain kinds.Retn) here (outcomes.gives returned) t
