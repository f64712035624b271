use Rattle.b67_cores.proofs.Forward.{steps_go_forward}
use Rattle.b67_cores.proofs.steps_go_forward.Goals as goal

pub returns : goal.returns
returns c = steps_go_forward
