use Rattle.std.proofs.Common.{◌≡◌, map}
use Rattle.algol_meaning.specs.World.{ancestor}
use Rattle.algol_instances.specs.SeenInstance.{instance, holding}
use Rattle.algol_instances.proofs.instances.ancestor.Given as goal

abbrev pub invariant-climbing : goal.invariant-climbing
invariant-climbing l = ancestor (holding (map instance l.instances)) l.left l.at ≡ ancestor (holding (map instance l.instances)) l.up l.number

abbrev pub decreases-climbing : goal.decreases-climbing
decreases-climbing l = l.left
