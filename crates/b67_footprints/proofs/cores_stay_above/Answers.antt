use Rattle.b67_footprints.proofs.Cores.{cores_stay_above}
use Rattle.b67_footprints.proofs.cores_stay_above.Goals as goal

pub returns : goal.returns
returns c = cores_stay_above
