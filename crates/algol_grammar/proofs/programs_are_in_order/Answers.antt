use Rattle.algol_grammar.proofs.InOrder.{in_order}
use Rattle.algol_grammar.proofs.programs_are_in_order.Goals as goal

pub returns : goal.returns
returns c = in_order
