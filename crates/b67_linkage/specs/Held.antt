-- What a call of the linkage works on, and what it asks of it.
use Rattle.std.specs.Prelude.{◌≡◌, ℕ, ◌+◌, ◌<◌, ◌≤◌, ◌^◌, List, length, Option, Some, None, IsSome, Result, Ok, Err}
use Rattle.b67_word.specs.declared.Place.{Place}
use Rattle.b67_word.specs.Word.{Word}
use Rattle.b67_control.specs.declared.Registers.{Registers}
use Rattle.b67_control.specs.Display.{levels}
use Rattle.b67_segment.specs.declared.code.Code.{Code}
use Rattle.b67_store.specs.Store.{Stacks, Rows, stack_at, words_of, stack_limit}
use Rattle.b67_table.specs.declared.InterruptKind.{InterruptKind}
use Rattle.b67_table.specs.declared.InterruptKind.TheVariants as interrupts
use Rattle.b67_table.specs.Private.{display_at, frame, floor}
use Rattle.b67_table.specs.Limits.{segment_numbers, most_cells}
use Rattle.b67_table.specs.Effect.{Effect}
use Rattle.b67_table.specs.Outcome.{Outcome, limited}
use Rattle.b67_table.specs.Outcome as outcomes
use Rattle.b67_table.specs.Chains.{place}
use Rattle.b67_linkage.specs.Closing.{AreShort}
use Rattle.b67_linkage.specs.declared.LinkFault.{LinkFault}
use Rattle.b67_linkage.specs.declared.LinkFault.TheVariants.{InvalidOperand, StackUnderflow, StackLimit, BrokenChain}

-- stacks and rows of a core, and the registers of a process
pub record HeldCore : Type 0 where
  pub stacks : Stacks
  pub rows : Rows
  pub regs : Registers

abbrev pub held : Stacks → Rows → Registers → HeldCore
held stacks rows r = record { stacks = stacks; rows = rows; regs = r }

-- the process's stack is open, S is its length, the frame lies in it, and the floor is no higher than S; each open stack can be named by
-- a mark, no row is longer than one can be opened, and the registers fit a control word. Each live process of a valid image meets it.
pub record IsLinked (stacks : Stacks) (rows : Rows) (r : Registers) : Type 0 where
  pub numbers : (n : ℕ) → IsSome (stack_at stacks n) → n < 2 ^ 10
  pub opened : IsSome (stack_at stacks r.stack)
  pub size : r.s ≡ length (words_of stacks r.stack)
  pub room : r.s ≤ stack_limit
  pub level : r.ll < levels
  pub own : display_at r r.ll ≡ Some (place r.stack (frame r))
  pub above : floor r ≤ r.s
  pub cells : r.cells ≤ most_cells
  pub segment : r.segment < segment_numbers
  pub short : AreShort rows

-- the outcome in the table that a refusal stands for
abbrev pub refused : {A : Type 0} → LinkFault → Outcome A
refused InvalidOperand = outcomes.interrupts interrupts.InvalidOperand
refused StackUnderflow = outcomes.interrupts interrupts.StackUnderflow
refused BrokenChain = outcomes.interrupts interrupts.BrokenChain
refused StackLimit = outcomes.limit

-- A call does an effect, by its answer: what is there after it is what the effect gives, or it is refused as the effect is. The limit of
-- the stack comes last.
abbrev pub Does : {A : Type 0} → Effect HeldCore → Result A LinkFault → HeldCore → Type 0
Does effect (Ok a) after = limited (λ (h : HeldCore). h.regs.s) effect ≡ outcomes.gives after
Does effect (Err fault) after = limited (λ (h : HeldCore). h.regs.s) effect ≡ refused fault

-- a look at the stacks finds what a call answers, or is stopped by the interrupt of the call's refusal
abbrev pub LookFinds : {A : Type 0} → Result A InterruptKind → Result A LinkFault → Type 0
LookFinds look (Ok a) = look ≡ Ok a
LookFinds look (Err InvalidOperand) = look ≡ Err interrupts.InvalidOperand
LookFinds look (Err StackUnderflow) = look ≡ Err interrupts.StackUnderflow
LookFinds look (Err BrokenChain) = look ≡ Err interrupts.BrokenChain
LookFinds look (Err StackLimit) = ⊥
