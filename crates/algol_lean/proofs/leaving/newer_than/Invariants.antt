use Rattle.std.proofs.Common.{◌-◌, length}
use Rattle.algol_world.specs.SeenWorld.{process_of}
use Rattle.algol_perform.proofs.Newer.{Seeking}
use Rattle.algol_lean.proofs.leaving.newer_than.Given as goal

abbrev pub invariant-seeking : goal.invariant-seeking
invariant-seeking l = Seeking (process_of l.world l.process).todo l.newer.items l.instance

abbrev pub decreases-seeking : goal.decreases-seeking
decreases-seeking l = length ((process_of l.world l.process).todo) - length l.newer.items
