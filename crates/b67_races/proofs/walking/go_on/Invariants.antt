use Rattle.std.proofs.Common.{◌≡◌, ◌+◌, ◌≤◌, ℕ, List, ◌++◌, replicate}
use Rattle.algol_meaning.specs.World.{World}
use Rattle.algol_cells.specs.SeenScope.{scoped}
use Rattle.algol_world.specs.SeenWorld.{world_of}
use Rattle.b67_races.specs.Walking.{ScheduleStands}
use Rattle.b67_races.proofs.walking.go_on.Given as goal

abbrev pub invariant-going : goal.invariant-going
invariant-going l =
    ((w : World) (given later : List ℕ) → ScheduleStands (scoped l.initial.world.scopes) w given (world_of l.initial.world) l.initial.walk (replicate l.times l.process ++ later)
    → ScheduleStands (scoped l.initial.world.scopes) w given (world_of l.world) l.walk (replicate l.left l.process ++ later))
    × (l.left ≤ l.times) × (l.walk.entries + l.left ≡ l.initial.walk.entries + l.times) × (l.world.scopes ≡ l.initial.world.scopes)

abbrev pub decreases-going : goal.decreases-going
decreases-going l = l.left
