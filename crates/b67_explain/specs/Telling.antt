-- The report of a machine after a run.
use Rattle.std.specs.Prelude.{◌≡◌, ℕ, ◌-◌, ◌<◌, ◌≤◌, ◌^◌, List, ◌∷◌, length, replicate, sum, Option, Some, None}
use Rattle.b67_schedule.specs.Schedules.{entries, ScheduleModel}
use Rattle.b67_report.specs.Reading.{IsEnd}
use Rattle.b67_report.specs.Reading.{ReportCounts}
use Rattle.b67_report.specs.declared.Report.{Report}
use Rattle.b67_report.specs.declared.EndWords.{EndWords}
use Rattle.b67_report.specs.declared.EndWords.TheVariants as words
use Rattle.b67_machine.specs.declared.reads.End.{End}
use Rattle.b67_machine.specs.declared.reads.End.TheVariants as ends
use Rattle.b67_machine.specs.declared.replay.Replayed.{Replayed}
use Rattle.b67_machine.specs.declared.replay.Replayed.TheVariants.{Ended, Ran, Illegal, BudgetSpent, NoMemory, Differs}
use Rattle.b67_machine.specs.Kept.{MachineModel, operators_counted}
use Rattle.b67_machine.specs.Reads.{machine_end}

abbrev pub words_of_end : End → EndWords
words_of_end ends.Finished = words.Finished
words_of_end (ends.Fault kind process) = words.Fault kind process
words_of_end ends.AllWaiting = words.AllWaiting
words_of_end (ends.StackLimit process count) = words.StackLimit process count

-- the machine has an end where the run says so, and did not lack memory
abbrev pub CanBeTold : Replayed → Option End → Type 0
CanBeTold Ended None = ⊥
CanBeTold NoMemory end = ⊥
CanBeTold answer end = Unit {0}

-- these words tell how a run ended
abbrev pub EndTells : Replayed → Option End → EndWords → Type 0
EndTells Ended (Some end) told = told ≡ words_of_end end
EndTells Ended None told = ⊥
EndTells Ran end told = told ≡ words.ScheduleEnded
EndTells (Illegal entry) end told = told ≡ words.Illegal entry
EndTells BudgetSpent end told = told ≡ words.BudgetSpent
EndTells NoMemory end told = ⊥
EndTells (Differs entry) end told = told ≡ words.Differs entry

-- one count for each process that there has been
pub record MachineCounts (machine : MachineModel) (operators : List ℕ) : Type 0 where
  pub each : length operators ≡ machine.image.started
  pub are : (p : ℕ) → 1 ≤ p → p ≤ length operators → operators_counted operators p ≡ operators_counted machine.counts p

-- one number of acts for each processor, and they add up to so many
pub record AreActs (processors count : ℕ) (acts : List ℕ) : Type 0 where
  pub each : length acts ≡ processors
  pub sum_is : sum acts ≡ count

-- the first of so many processors made so many acts, and the others made none
abbrev pub AreOfFirst : ℕ → ℕ → List ℕ → Type 0
AreOfFirst processors count acts = acts ≡ count ∷ replicate (processors - 1) 0

-- there are as many lines and counts as 64 bits can number, and each number has its bits
pub record HasSizes (report : Report) : Type 0 where
  pub listing : length report.listing < 2 ^ 64
  pub output : length report.output < 2 ^ 64
  pub end : IsEnd report.end
  pub operators : ReportCounts report.operators
  pub acts : ReportCounts report.acts

-- the report of the machine after a run that ended so
pub record IsReportOf (machine : MachineModel) (answer : Replayed) (lines : List (List ℕ)) (processors : ℕ) (schedule : ScheduleModel) (report : Report) : Type 0 where
  pub listing : report.listing ≡ lines
  pub output : report.output ≡ machine.image.output
  pub end : EndTells answer (machine_end machine) report.end
  pub operators : MachineCounts machine report.operators
  pub acts : AreActs processors (length (entries schedule.runs)) report.acts
  pub performed : report.schedule ≡ schedule
  pub sizes : HasSizes report
