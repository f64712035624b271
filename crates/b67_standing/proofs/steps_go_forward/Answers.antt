use Rattle.b67_standing.proofs.Forward.{steps_go_forward as steps_go_forward_lem}
use Rattle.b67_standing.proofs.steps_go_forward.Goals as goal

pub returns : goal.returns
returns c = steps_go_forward_lem
