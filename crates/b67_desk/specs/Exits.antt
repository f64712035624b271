-- The exit status of the program, by how a call of the desk ended.
use Rattle.std.specs.Prelude.{ℕ}
use Rattle.b67_desk.specs.declared.status.Status.{Status}
use Rattle.b67_desk.specs.declared.status.Status.TheVariants as status

-- one for each way to end
abbrev pub exit_status : Status → ℕ
exit_status status.Finished = 0
exit_status (status.Refused place code) = 1
exit_status (status.Usage word kind) = 2
exit_status (status.Fault kind process) = 3
exit_status status.AllWaiting = 4
exit_status status.BudgetSpent = 5
exit_status status.ReadFault = 6
exit_status status.WriteFault = 7
exit_status status.NoMemory = 8
exit_status (status.StackLimit process words) = 9
exit_status status.TooLong = 10
exit_status (status.Illegal entry) = 11
exit_status status.ScheduleEnded = 12
exit_status (status.BadSchedule byte) = 13
exit_status (status.Differs entry) = 14
exit_status (status.Interrupt kind process) = 15
exit_status (status.Unjust verdict) = 16
exit_status (status.BadReport byte) = 17
exit_status (status.BadConsole line) = 18
exit_status status.Cut = 20
