use Rattle.b67_fronts.proofs.Onward.{fronts_go_on}
use Rattle.b67_fronts.proofs.fronts_go_on.Goals as goal

pub returns : goal.returns
returns c = fronts_go_on
