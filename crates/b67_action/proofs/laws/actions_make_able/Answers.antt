use Rattle.b67_action.proofs.MakeAble.{make_able}
use Rattle.b67_action.proofs.laws.actions_make_able.Goals as goal

pub returns : goal.returns
returns c = make_able
