use Rattle.std.proofs.Common.{◌≡◌, ◌+◌, ◌++◌, drop, map}
use Rattle.algol_cells.specs.SeenScope.{scoped}
use Rattle.algol_instances.specs.SeenInstance.{instance}
use Rattle.b67_dump.specs.Snapshots.{instances_lines}
use Rattle.b67_dump.proofs.snapshots.snapshot.Given as goal

abbrev pub invariant-instances : goal.invariant-instances
invariant-instances l = record {
  lines : l.lines.items ++ instances_lines (scoped l.world.scopes) (l.before + 1) (map instance (drop l.x-index l.world.instances))
      ≡ instances_lines (scoped l.world.scopes) 1 (map instance l.world.instances);
  at : l.before ≡ l.x-index;
}
