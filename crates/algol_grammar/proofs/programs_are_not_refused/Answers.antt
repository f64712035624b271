use Rattle.algol_grammar.proofs.Refusals.{program_not_refused}
use Rattle.algol_grammar.proofs.programs_are_not_refused.Goals as goal

pub returns : goal.returns
returns c = program_not_refused
