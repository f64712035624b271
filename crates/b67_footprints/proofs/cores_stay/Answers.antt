use Rattle.b67_footprints.proofs.CoresKept.{cores_stay}
use Rattle.b67_footprints.proofs.cores_stay.Goals as goal

pub returns : goal.returns
returns c = cores_stay
