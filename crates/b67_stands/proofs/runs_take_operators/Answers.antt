use Rattle.b67_stands.proofs.Advancing.{runs_take_operators}
use Rattle.b67_stands.proofs.runs_take_operators.Goals as goal

pub returns : goal.returns
returns g = runs_take_operators
