use Rattle.b67_cores.proofs.Deciding.{cores_decide}
use Rattle.b67_cores.proofs.cores_decide.Goals as goal

pub returns : goal.returns
returns c = cores_decide
