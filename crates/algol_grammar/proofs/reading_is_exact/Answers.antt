use Rattle.algol_grammar.proofs.Exact.{exact}
use Rattle.algol_grammar.proofs.reading_is_exact.Goals as goal

pub returns : goal.returns
returns c = exact
