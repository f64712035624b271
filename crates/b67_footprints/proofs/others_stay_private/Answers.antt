use Rattle.b67_footprints.proofs.Apart.{others_stay_private}
use Rattle.b67_footprints.proofs.others_stay_private.Goals as goal

pub returns : goal.returns
returns c = others_stay_private
