use Rattle.algol_laws.proofs.Choices.{each_keeps}
use Rattle.algol_laws.proofs.each_action_keeps.Goals as goal

pub returns : goal.returns
returns c = each_keeps
