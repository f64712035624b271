use Rattle.std.proofs.Common.{◌≡◌, ◌+◌, drop, length}
use Rattle.algol_meaning.specs.World.{World}
use Rattle.algol_cells.specs.SeenScope.{scoped}
use Rattle.algol_world.specs.SeenWorld.{world_of}
use Rattle.algol_lean.specs.Beside.{RunsBeside}
use Rattle.b67_schedule.specs.Schedules.{entries}
use Rattle.b67_judge.proofs.Beside.{StandsBeside}
use Rattle.b67_judge.proofs.walking.walk.Given as goal

abbrev pub invariant-runs : goal.invariant-runs
invariant-runs l =
    ((w : World) → RunsBeside (scoped l.initial.world.scopes) w (world_of l.initial.world)
    → StandsBeside (scoped l.initial.world.scopes) (entries l.fn.schedule.runs) w (world_of l.world) l.before (entries (drop l.run-index l.fn.schedule.runs)))
    × (l.world.scopes ≡ l.initial.world.scopes)
    × (l.before + length (entries (drop l.run-index l.fn.schedule.runs)) ≡ length (entries l.fn.schedule.runs))
