use Rattle.b67_fitting.proofs.Nesting.{programs_lie_nested}
use Rattle.b67_fitting.proofs.programs_lie_nested.Goals as goal

pub returns : goal.returns
returns c = programs_lie_nested
