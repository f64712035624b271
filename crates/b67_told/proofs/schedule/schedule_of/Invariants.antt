use Rattle.std.proofs.Common.{◌≡◌, ◌≤◌, length, drop, reverse}
use Rattle.b67_schedule.specs.Schedules.{entries, AreRuns}
use Rattle.b67_told.proofs.schedule.schedule_of.Given as goal

-- the entries from this place on are in the runs
abbrev pub invariant-entries : goal.invariant-entries
invariant-entries l = (l.left ≤ length l.history) × AreRuns l.runs.items × (entries l.runs.items ≡ reverse (drop l.left l.history))

abbrev pub decreases-entries : goal.decreases-entries
decreases-entries l = l.left
