use Rattle.b67_cores.proofs.Placing.{fragments_are_performed}
use Rattle.b67_cores.proofs.fragments_are_performed.Goals as goal

pub returns : goal.returns
returns c = fragments_are_performed
