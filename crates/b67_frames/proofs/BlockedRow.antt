-- EXIT of a base frame on which a process depends: a fault.
use Rattle.std.proofs.Common.{◌≡◌, ap, ◌∙◌, ℕ, ◌+◌, List, [], ◌∷◌, take, drop, Bool, true, Ok}
use Rattle.b67_frames.proofs.Prelude.{if◌then◌else◌, nat_eq, CriticalBlockExit, Word, Registers, Code, words_of, Effect, faults, Image, caused_by, frame_left, is_critical, leave_base, leave_other, frame, Program, Change, done, does, effect_of, asked, answer, fault, registers, end_process, live_criticals, exit, raw, Core, HasCore, raw_is}
use Rattle.b67_table.specs.Table.{operator_at}
use Rattle.b67_ops.specs.declared.Operator.TheVariants as ops
use Rattle.b67_ops.specs.declared.PlainKind.TheVariants as kinds
use Rattle.b67_table.specs.Rows.{row}
use Rattle.b67_rows.proofs.AtOperator.{at_operator}

module _ (code : Code) (img : Image) (p : ℕ) (core : Core) (has : HasCore img p core) (next : ℕ) where
  abbrev r : Registers
  r = core.registers

  abbrev tested : Program → Effect Image
  tested t = effect_of p img (asked img t)

  -- what is done with the words of the cells of a frame so high, in whose place these words come
  abbrev left_with : List Word → ℕ → List Word → Program
  left_with words n ws = if nat_eq n 0 then leave_base r ws next else leave_other r ws n words

  abbrev cells_at : ℕ → List Word
  cells_at n = take r.cells (drop (n + 2) (words_of img.stacks r.stack))

  module _ (base : frame core.registers ≡ 0) (critical : is_critical core.registers.stack (0 ∷ []) (live_criticals img.states img.regs) ≡ true) where
    abbrev ends : Change
    ends = frame_left r.stack 0 (cells_at 0) (registers (record r { place = next }) (caused_by r.task (end_process r.stack done)))

    base_blocked : does p (exit r next) img ≡ faults CriticalBlockExit
    base_blocked =
        ap (λ (n : ℕ). tested (left_with [] n (cells_at n))) base
        ∙ ap (λ (b : Bool). tested (if b then fault CriticalBlockExit else answer ends)) critical

    pub end_blocked : operator_at code core.registers ≡ Ok (ops.Plain kinds.Exit, next) → raw code img p ≡ faults CriticalBlockExit
    unfolding row
    end_blocked at = raw_is code (ops.Plain kinds.Exit) (at_operator has at) ∙ base_blocked
