use Rattle.b67_footprints.proofs.Touching.{operators_touch_what_they_reach}
use Rattle.b67_footprints.proofs.operators_touch_what_they_reach.Goals as goal

pub returns : goal.returns
returns c = operators_touch_what_they_reach
