use Rattle.algol_grammar.proofs.Refusals.{one_refusal}
use Rattle.algol_grammar.proofs.tokens_are_refused_once.Goals as goal

pub returns : goal.returns
returns c = one_refusal
