-- What calls answer, in the table's words.
use Rattle.std.specs.Prelude.{◌≡◌, ℕ, ◌<◌, ◌≤◌, true, Some, Result, Ok, Err, OnErr, length, is_some}
use Rattle.b67_list.specs.Numbered.{numbered}
use Rattle.b67_word.specs.Word.{Word}
use Rattle.b67_control.specs.declared.Registers.{Registers}
use Rattle.b67_control.specs.Display.{levels}
use Rattle.b67_store.specs.Store.{Stacks, Rows, stack_at, words_of, stack_limit}
use Rattle.b67_table.specs.declared.InterruptKind.{InterruptKind}
use Rattle.b67_table.specs.Effect.{Effect}
use Rattle.b67_table.specs.Effect as effects
use Rattle.b67_table.specs.Outcome.{Outcome, gives, faults, interrupts, limit, limited}
use Rattle.b67_table.specs.Image.{Image}
use Rattle.b67_table.specs.Program.{Test, asked, Program, does}
use Rattle.b67_table.specs.References.{Two}
use Rattle.b67_table.specs.Table.{stack_length}
use Rattle.b67_reach.specs.declared.Stop.{Stop}
use Rattle.b67_reach.specs.declared.Stop.TheVariants.{Interrupt, Fault, StackLimit}
use Rattle.b67_reach.specs.Images.{Own, with_own}

-- ---- answers as outcomes

-- an effect of which nothing is the limit
abbrev pub whole_outcome : {A : Type 0} → Effect A → Outcome A
whole_outcome (effects.gives a) = gives a
whole_outcome (effects.faults kind) = faults kind
whole_outcome (effects.interrupts kind) = interrupts kind

abbrev pub stopped : {A : Type 0} → Stop → Outcome A
stopped (Interrupt kind) = interrupts kind
stopped (Fault kind) = faults kind
stopped StackLimit = limit

abbrev pub outcome_answered : {A : Type 0} → Result A Stop → Outcome A
outcome_answered (Ok a) = gives a
outcome_answered (Err stop) = stopped stop

-- the image after an operator that was performed, or what stopped it
abbrev pub outcome_after : {A : Type 0} → Image → Result A Stop → Outcome Image
outcome_after new (Ok a) = gives new
outcome_after new (Err stop) = stopped stop

-- ---- what is found

-- what a look finds, as an answer
abbrev pub looked : {A : Type 0} → Result A InterruptKind → Result A Stop
looked (Ok a) = Ok a
looked (Err kind) = Err (Interrupt kind)

-- the two words on top as a pair, the top first
abbrev pub both : Result Two InterruptKind → Result (Word × Word) InterruptKind
both (Ok t) = Ok (t.x, t.y)
both (Err kind) = Err kind

-- every image with these stacks and rows answers the test so
pub record TestTells {A : Type 0} (test : Test A) (stacks : Stacks) (rows : Rows) (answer : Result A Stop) : Type 0 where
  pub told : (img : Image) → img.stacks ≡ stacks → img.rows ≡ rows → whole_outcome (asked img test) ≡ outcome_answered answer

-- ---- what is performed

-- In every image in which a process has these stacks, rows and registers, its program makes the image with the new ones; or it is stopped
-- so, and they stay. The stack limit comes exactly where the table has it.
pub record ProgramPerforms {A : Type 0} (program : Program) (old new : Own) (answer : Result A Stop) : Type 0 where
  pub outcome : (p : ℕ) (img : Image) → img.stacks ≡ old.stacks → img.rows ≡ old.rows → numbered img.regs p ≡ Some old.regs
      → limited (stack_length p) (does p program img) ≡ outcome_after (with_own new p img) answer
  pub stays : OnErr answer (new ≡ old)

-- the same of one image and the image after, for an operator that asks the kernel and other parts too
pub record ProgramActs {A : Type 0} (p : ℕ) (program : Program) (old new : Image) (answer : Result A Stop) : Type 0 where
  pub outcome : limited (stack_length p) (does p program old) ≡ outcome_after new answer
  pub stays : OnErr answer (new ≡ old)

-- ---- what is asked of a process

-- its level is one of a display, and its stack is open and as long as S says
pub record IsReady (stacks : Stacks) (r : Registers) : Type 0 where
  pub level : r.ll < levels
  pub opened : is_some (stack_at stacks r.stack) ≡ true
  pub size : r.s ≡ length (words_of stacks r.stack)
  pub room : r.s ≤ stack_limit
