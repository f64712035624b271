use Rattle.std.proofs.Common.{length}
use Rattle.algol_instances.proofs.array.+flat.Given as goal

abbrev pub decreases-flat : goal.decreases-flat
decreases-flat l = length l.bounds.now
