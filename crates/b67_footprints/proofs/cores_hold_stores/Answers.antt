use Rattle.b67_footprints.proofs.CoresKept.{cores_hold_stores}
use Rattle.b67_footprints.proofs.cores_hold_stores.Goals as goal

pub returns : goal.returns
returns c = cores_hold_stores
