use Rattle.b67_standing.proofs.GoingOn.{rests_go_on as rests_go_on_lem}
use Rattle.b67_standing.proofs.rests_go_on.Goals as goal

pub returns : goal.returns
returns c = rests_go_on_lem
