use Rattle.std.proofs.Common.{length}
use Rattle.algol_seen.proofs.signal.+gone_by.Given as goal

abbrev pub decreases-gone_by : goal.decreases-gone_by
decreases-gone_by l = length l.es.now
