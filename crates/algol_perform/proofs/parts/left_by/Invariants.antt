use Rattle.std.proofs.Common.{◌-◌, length}
use Rattle.algol_world.specs.SeenWorld.{process_of}
use Rattle.algol_perform.proofs.Newer.{Seeking}
use Rattle.algol_perform.proofs.parts.left_by.Given as goal

abbrev pub invariant-leaving : goal.invariant-leaving
invariant-leaving l = Seeking (process_of l.world l.process).todo l.left.items l.instance

abbrev pub decreases-leaving : goal.decreases-leaving
decreases-leaving l = length ((process_of l.world l.process).todo) - length l.left.items
