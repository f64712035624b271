use Rattle.std.proofs.Common.{◌≡◌, ◌≤◌, length, take, Some}
use Rattle.algol_meaning.specs.Run.{run_from}
use Rattle.algol_cells.specs.SeenScope.{scoped}
use Rattle.algol_world.specs.SeenWorld.{world_of}
use Rattle.algol_run.proofs.following.follow_in_place.Given as goal

abbrev pub invariant-going : goal.invariant-going
invariant-going l =
    (run_from (scoped l.initial.world.scopes) (take l.went l.schedule) (Some (world_of l.initial.world)) ≡ Some (world_of l.world))
    × (l.went ≡ l.process-index) × (l.went ≤ length l.schedule) × (l.world.scopes ≡ l.initial.world.scopes)
