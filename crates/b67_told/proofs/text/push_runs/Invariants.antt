use Rattle.std.proofs.Common.{◌≡◌, ◌++◌, take}
use Rattle.std.specs.List.{flat_map}
use Rattle.b67_schedule.specs.Schedules.{run_line}
use Rattle.b67_told.proofs.text.push_runs.Given as goal

abbrev pub invariant-runs : goal.invariant-runs
invariant-runs l = l.text.items ≡ l.initial.text.items ++ flat_map run_line (take l.run-index l.runs)
