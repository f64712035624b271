use Rattle.std.proofs.Common.{◌≡◌, ◌+◌, ◌-◌, ◌≤◌, ℕ, List, ◌++◌, replicate, Some}
use Rattle.algol_meaning.specs.World.{World}
use Rattle.algol_meaning.specs.Run.{run_from}
use Rattle.algol_cells.specs.SeenScope.{scoped}
use Rattle.algol_world.specs.SeenWorld.{world_of}
use Rattle.b67_storing.specs.Walking.{StandsNoted}
use Rattle.b67_storing.proofs.walking.go_run.Given as goal

-- so many of the run's entries are made
abbrev pub invariant-going : goal.invariant-going
invariant-going l =
    ((w end : World) (given left : List ℕ) → run_from (scoped l.initial.world.scopes) given (Some w) ≡ Some end
    → StandsNoted (scoped l.initial.world.scopes) l.commands w given (world_of l.initial.world) l.initial.notes.items l.before (replicate l.run.times l.run.process ++ left)
    → StandsNoted (scoped l.initial.world.scopes) l.commands w given (world_of l.world) l.notes.items (l.before + l.made) (replicate (l.run.times - l.made) l.run.process ++ left))
    × (l.made ≤ l.run.times) × (l.world.scopes ≡ l.initial.world.scopes)

abbrev pub decreases-going : goal.decreases-going
decreases-going l = l.run.times - l.made
