-- What is performed in one process among others.
use Rattle.std.specs.Prelude.{◌≡◌, ℕ, List, Result, OnErr}
use Rattle.b67_list.specs.Numbered.{numbered}
use Rattle.b67_control.specs.declared.Registers.{Registers}
use Rattle.b67_store.specs.Store.{Stacks, Rows}
use Rattle.b67_table.specs.Effect.{Effect}
use Rattle.b67_table.specs.Image.{Image}
use Rattle.b67_table.specs.Linkage.{entry}
use Rattle.b67_table.specs.Outcome.{limited}
use Rattle.b67_table.specs.Program.{Program}
use Rattle.b67_table.specs.Table.{stack_length}
use Rattle.b67_operators.specs.declared.calling.Called.{Called}
use Rattle.b67_operators.specs.Leaves.{program_in}
use Rattle.b67_reach.specs.declared.Stop.{Stop}
use Rattle.b67_reach.specs.Answers.{outcome_after, ProgramActs}

-- the image with these stacks, rows and registers
abbrev pub with_all : Stacks → Rows → List Registers → Image → Image
with_all stacks rows all img = record img { stacks = stacks; rows = rows; regs = all }

-- an effect comes to what is answered: the new image, or what stops it, and then all stays as it was
pub record EffectComes {A : Type 0} (p : ℕ) (effect : Effect Image) (old new : Image) (answer : Result A Stop) : Type 0 where
  pub outcome : limited (stack_length p) effect ≡ outcome_after new answer
  pub stays : OnErr answer (new ≡ old)

-- a program of a process makes of every image with these stacks, rows and registers the one with the new ones
abbrev pub ActsIn : {A : Type 0} → (Registers → ℕ → Program) → ℕ → Stacks → Rows → List Registers → ℕ → Stacks → Rows → List Registers → Result A Stop → Type 0
ActsIn program next stacks rows all p new more regs answer =
    (img : Image) → img.stacks ≡ stacks → img.rows ≡ rows → img.regs ≡ all → ProgramActs p (program_in program (numbered all p) next) img (with_all new more regs img) answer

-- the entry of a procedure that was found
abbrev pub entry_program : Called → Registers → ℕ → Program
entry_program c r next = entry r next c.mark.df c.pcw c.home
