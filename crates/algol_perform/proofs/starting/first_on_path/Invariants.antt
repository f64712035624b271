use Rattle.std.proofs.Common.{◌≡◌, ◌≤◌, ◌+◌, ◌-◌, [], take, length, map}
use Rattle.algol_meaning.specs.Critical.{newest_first, first_on_path}
use Rattle.algol_instances.specs.SeenInstance.{instance}
use Rattle.algol_world.specs.SeenWorld.{world_of}
use Rattle.algol_perform.proofs.starting.first_on_path.Given as goal

abbrev pub invariant-following : goal.invariant-following
invariant-following l = record {
  rest : first_on_path (world_of l.world) (newest_first 1 (take (l.below - 1) (map instance l.world.instances)) []) l.at l.wanted
      ≡ first_on_path (world_of l.world) (newest_first 1 (map instance l.world.instances) []) l.process l.wanted;
  within : l.below ≤ length (map instance l.world.instances) + 1;
}

abbrev pub decreases-following : goal.decreases-following
decreases-following l = l.below
