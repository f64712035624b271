use Rattle.std.proofs.Common.{◌≡◌, take, length}
use Rattle.b67_schedule.specs.Schedules.{entries}
use Rattle.b67_schedule.proofs.old.actions_of.Given as goal

abbrev pub invariant-runs : goal.invariant-runs
invariant-runs l = l.actions ≡ length (entries (take l.run-index l.runs))
