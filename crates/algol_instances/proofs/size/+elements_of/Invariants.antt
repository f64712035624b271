use Rattle.std.proofs.Common.{length}
use Rattle.algol_instances.proofs.size.+elements_of.Given as goal

abbrev pub decreases-elements_of : goal.decreases-elements_of
decreases-elements_of l = length l.bounds.now
