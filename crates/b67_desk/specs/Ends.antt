-- The statuses under which the ends of runs are told.
use Rattle.b67_report.specs.declared.EndWords.{EndWords}
use Rattle.b67_report.specs.declared.EndWords.TheVariants as ends
use Rattle.b67_exec.specs.declared.Stopped.{Stopped}
use Rattle.b67_exec.specs.declared.Stopped.TheVariants as stopped
use Rattle.b67_desk.specs.declared.status.Status.{Status}
use Rattle.b67_desk.specs.declared.status.Status.TheVariants as status

-- the status under which a run is reported
abbrev pub status_of : EndWords → Status
status_of ends.Finished = status.Finished
status_of (ends.Fault kind process) = status.Fault kind process
status_of ends.AllWaiting = status.AllWaiting
status_of ends.BudgetSpent = status.BudgetSpent
status_of (ends.StackLimit process words) = status.StackLimit process words
status_of ends.ScheduleEnded = status.ScheduleEnded
status_of (ends.Illegal entry) = status.Illegal entry
status_of (ends.Differs entry) = status.Differs entry

-- the status under which a run by turns is told
abbrev pub status_by : Stopped → Status
status_by stopped.Finished = status.Finished
status_by (stopped.Fault kind process) = status.Fault kind process
status_by stopped.AllWaiting = status.AllWaiting
status_by (stopped.Interrupt kind process) = status.Interrupt kind process
status_by (stopped.StackLimit process words) = status.StackLimit process words
status_by stopped.BudgetSpent = status.BudgetSpent
