use Rattle.b67_templates.proofs.Few.{actuals_are_few as few}
use Rattle.b67_templates.proofs.actuals_are_few.Goals as goal

pub returns : goal.returns
returns c = few
