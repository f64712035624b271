-- Private operators of a process among others.
use Rattle.std.specs.Prelude.{◌≡◌, ℕ, drop, reverse, List, Option, Some, None, Result, OnErr}
use Rattle.b67_list.specs.Numbered.{numbered}
use Rattle.b67_control.specs.declared.Registers.{Registers}
use Rattle.b67_ops.specs.declared.Operator.{Operator}
use Rattle.b67_store.specs.Store.{Stacks, Rows, words_of}
use Rattle.b67_table.specs.declared.InterruptKind.TheVariants.{BadCode}
use Rattle.b67_table.specs.Effect.{Effect, interrupts}
use Rattle.b67_table.specs.declared.Private.{Private}
use Rattle.b67_table.specs.Image.{Image, private_of, with_effect}
use Rattle.b67_table.specs.Outcome.{limited}
use Rattle.b67_table.specs.Private.{floor}
use Rattle.b67_table.specs.Table.{private_op, stack_length}
use Rattle.b67_private.specs.declared.Stop.{Stop as PartStop}
use Rattle.b67_private.specs.declared.Stop.TheVariants as parts
use Rattle.b67_reach.specs.declared.Stop.{Stop}
use Rattle.b67_reach.specs.declared.Stop.TheVariants.{Interrupt, Fault, StackLimit}
use Rattle.b67_reach.specs.Answers.{outcome_after}
use Rattle.b67_reach.specs.Images.{Own, with_own}
use Rattle.b67_action.specs.Among.{with_all, EffectComes}

-- a process with these registers, and the words of its stack from a base on
abbrev pub part_from : ℕ → Stacks → Registers → Private
part_from base stacks r = record { regs = r; words = reverse (drop base (words_of stacks r.stack)) }

-- its private part
abbrev pub part_of_process : Stacks → Registers → Private
part_of_process stacks r = part_from (floor r) stacks r

abbrev pub stop_by : PartStop → Stop
stop_by (parts.Fault kind) = Fault kind
stop_by (parts.Interrupt kind) = Interrupt kind
stop_by parts.StackLimit = StackLimit

-- In every image in which a process has these stacks and registers, its private operator makes the image with the new ones; or it is
-- stopped so, and they stay.
pub record DoesOwn {A : Type 0} (op : Operator) (next : ℕ) (old new : Own) (answer : Result A Stop) : Type 0 where
  pub outcome : (p : ℕ) (img : Image) → img.stacks ≡ old.stacks → img.rows ≡ old.rows → numbered img.regs p ≡ Some old.regs
      → limited (stack_length p) (with_effect img p (floor old.regs) (private_op op old.regs.place next (private_of img old.regs))) ≡ outcome_after (with_own new p img) answer
  pub stays : OnErr answer (new ≡ old)

-- the effect of a private operator on the image, in a process with these registers
abbrev pub own_effect : Operator → ℕ → ℕ → Option Registers → Image → Effect Image
own_effect op next p None img = interrupts BadCode
own_effect op next p (Some r) img = with_effect img p (floor r) (private_op op r.place next (private_of img r))

-- in every image in which the processes have these stacks, rows and registers
abbrev pub DoesOwnIn : {A : Type 0} → Operator → ℕ → Stacks → Rows → List Registers → ℕ → Stacks → Rows → List Registers → Result A Stop → Type 0
DoesOwnIn op next stacks rows all p new more regs answer =
    (img : Image) → img.stacks ≡ stacks → img.rows ≡ rows → img.regs ≡ all → EffectComes p (own_effect op next p (numbered all p) img) img (with_all new more regs img) answer
