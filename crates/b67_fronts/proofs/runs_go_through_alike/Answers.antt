use Rattle.b67_fronts.proofs.Onward.{alike}
use Rattle.b67_fronts.proofs.runs_go_through_alike.Goals as goal

pub returns : goal.returns
returns c = alike
