use Rattle.std.proofs.Common.{◌≡◌, ◌≤◌, drop}
use Rattle.algol_meaning.specs.World.{World}
use Rattle.algol_cells.specs.SeenScope.{scoped}
use Rattle.algol_world.specs.SeenWorld.{world_of}
use Rattle.algol_lean.specs.Beside.{RunsBeside}
use Rattle.b67_dump.proofs.Walks.{FirstBeside}
use Rattle.b67_dump.proofs.dumping.walk_first.Given as goal

abbrev pub invariant-runs : goal.invariant-runs
invariant-runs l = record {
  walks : (w : World) → RunsBeside (scoped l.initial.world.scopes) w (world_of l.initial.world)
      → FirstBeside (scoped l.initial.world.scopes) l.most l.runs w (world_of l.world) l.left (drop l.run-index l.runs);
  same : l.world.scopes ≡ l.initial.world.scopes;
  within : l.left ≤ l.most;
}
