use Rattle.b67_outcomes_all.proofs.Telling.{are_limits}
use Rattle.b67_outcomes_all.proofs.stops_are_limits.Goals as goal

pub returns : goal.returns
returns c = are_limits
