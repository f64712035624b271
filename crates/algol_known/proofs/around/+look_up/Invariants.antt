use Rattle.std.proofs.Common.{length}
use Rattle.algol_known.proofs.around.+look_up.Given as goal

abbrev pub decreases-look_up : goal.decreases-look_up
decreases-look_up l = length l.blocks.now
