use Rattle.b67_outcomes_all.proofs.Outcomes.{told_are_all}
use Rattle.b67_outcomes_all.proofs.told_are_all.Goals as goal

pub returns : goal.returns
returns c = told_are_all
