-- What is known of a run that has ended.
use Rattle.std.specs.Prelude.{◌≡◌, ℕ, List, Some}
use Rattle.b67_schedule.specs.Schedules.{ScheduleModel}
use Rattle.b67_segment.specs.declared.code.Code.{Code}
use Rattle.b67_machine.specs.Kept.{MachineModel}
use Rattle.b67_machine.specs.declared.replay.Replayed.{Replayed}
use Rattle.b67_stands.specs.Running.{Running, answer_of}
use Rattle.b67_stands.specs.Picked.{Pick}
use Rattle.b67_stands.specs.Stands.{Stands}
use Rattle.b67_stands.specs.Alone.{ByOne}
use Rattle.b67_stands.specs.Shared.{Shared, ByProcessors}

-- A run of this code under that budget has ended so, with this machine and this schedule: a plant with them stands.
pub record HasRun (code : Code) (budget : ℕ) (machine : MachineModel) (schedule : ScheduleModel) (answer : Replayed) : Type 0 where
  pub plant : Running
  pub stands : Stands code budget plant
  pub machine_is : plant.machine ≡ machine
  pub schedule_is : plant.schedule ≡ schedule
  pub answered : answer_of budget plant ≡ Some answer

-- And one processor did all the work, under this rule.
pub record HasRunAlone (code : Code) (budget : ℕ) (pick : Pick) (machine : MachineModel) (schedule : ScheduleModel) (answer : Replayed) : Type 0 where
  pub has_run : HasRun code budget machine schedule answer
  pub by_one : ByOne code budget pick has_run.plant

-- And so many processors shared it, under this rule, and so many acts each of them made, in their order.
pub record HasRunShared (code : Code) (budget : ℕ) (pick : Pick) (processors : ℕ) (machine : MachineModel) (schedule : ScheduleModel) (answer : Replayed) (acts : List ℕ) : Type 0 where
  pub has_run : HasRun code budget machine schedule answer
  pub shared : Shared code budget pick processors acts has_run.plant
  pub books : ByProcessors processors has_run.plant acts
