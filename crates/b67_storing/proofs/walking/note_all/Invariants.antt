use Rattle.std.proofs.Common.{◌≡◌, ◌+◌, ℕ, List, drop, length, Some}
use Rattle.algol_meaning.specs.World.{World}
use Rattle.algol_meaning.specs.Run.{run_from}
use Rattle.algol_cells.specs.SeenScope.{scoped}
use Rattle.algol_world.specs.SeenWorld.{world_of}
use Rattle.b67_schedule.specs.Schedules.{entries}
use Rattle.b67_storing.specs.Walking.{StandsNoted}
use Rattle.b67_storing.proofs.walking.note_all.Given as goal

-- these runs are left
abbrev pub invariant-runs : goal.invariant-runs
invariant-runs l =
    ((w end : World) (given : List ℕ) → run_from (scoped l.initial.world.scopes) given (Some w) ≡ Some end
    → StandsNoted (scoped l.initial.world.scopes) l.commands w given (world_of l.initial.world) l.initial.notes.items 0 (entries l.fn.runs)
    → StandsNoted (scoped l.initial.world.scopes) l.commands w given (world_of l.world) l.notes.items l.before (entries (drop l.run-index l.fn.runs)))
    × (l.before + length (entries (drop l.run-index l.fn.runs)) ≡ length (entries l.fn.runs))
    × (l.world.scopes ≡ l.initial.world.scopes)
