use Rattle.b67_operators.proofs.Choices.{enters_what_it_calls}
use Rattle.b67_operators.proofs.calling.enter_does_what_it_calls.Goals as goal

pub returns : goal.returns
returns c = enters_what_it_calls
