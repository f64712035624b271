use Rattle.std.proofs.Common.{◌≡◌, ◌+◌, ℕ, List, drop, length}
use Rattle.algol_meaning.specs.World.{World}
use Rattle.algol_cells.specs.SeenScope.{scoped}
use Rattle.algol_world.specs.SeenWorld.{world_of}
use Rattle.b67_schedule.specs.Schedules.{entries}
use Rattle.b67_races.specs.Walking.{ScheduleStands}
use Rattle.b67_races.proofs.walking.go_all.Given as goal

abbrev pub invariant-runs : goal.invariant-runs
invariant-runs l =
    ((w : World) (given : List ℕ) → ScheduleStands (scoped l.initial.world.scopes) w given (world_of l.initial.world) l.initial.walk (entries l.fn.schedule.runs)
    → ScheduleStands (scoped l.initial.world.scopes) w given (world_of l.world) l.walk (entries (drop l.run-index l.fn.schedule.runs)))
    × (l.walk.entries + length (entries (drop l.run-index l.fn.schedule.runs)) ≡ l.initial.walk.entries + length (entries l.fn.schedule.runs))
    × (l.world.scopes ≡ l.initial.world.scopes)
