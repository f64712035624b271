-- What contracts see of a plant, and how its run ends.
use Rattle.std.specs.Prelude.{ℕ, nat_le, Bool, true, false, List, Option, Some, None}
use Rattle.b67_schedule.specs.Schedules.{ScheduleModel}
use Rattle.b67_machine.specs.Kept.{MachineModel}
use Rattle.b67_machine.specs.declared.reads.End.{End}
use Rattle.b67_machine.specs.Reads.{machine_end}
use Rattle.b67_machine.specs.declared.replay.Replayed.{Replayed}
use Rattle.b67_machine.specs.declared.replay.Replayed.TheVariants.{Ended, BudgetSpent, NoMemory}

pub record Running : Type 0 where
  pub machine : MachineModel
  -- who waits for a processor, the earliest first, and how many takes there have been
  pub waiting : List ℕ
  pub takes : ℕ
  -- with which processor each process is out, by the processes' numbers from 1; with none: 0
  pub out : List ℕ
  -- whose each action was
  pub schedule : ScheduleModel
  -- how many operators were performed
  pub spent : ℕ
  -- the books of acts and of leaves
  pub acts : ℕ
  pub leaves : ℕ

-- ---- the end

abbrev pub spends : Bool → Option Replayed
spends true = Some BudgetSpent
spends false = None

abbrev pub run_ends : Option End → Bool → Option Replayed
run_ends (Some e) spent = Some Ended
run_ends None spent = spends spent

abbrev pub answer_by : Bool → Option End → Bool → Option Replayed
answer_by true e spent = Some NoMemory
answer_by false e spent = run_ends e spent

-- How the run has ended: without memory; else by the machine's end; else because the budget is spent. None where it goes on.
abbrev pub answer_of : ℕ → Running → Option Replayed
answer_of budget s = answer_by s.machine.lacked (machine_end s.machine) (nat_le budget s.spent)
