use Rattle.algol_grammar.proofs.OneTree.{one_tree}
use Rattle.algol_grammar.proofs.tokens_have_one_tree.Goals as goal

pub returns : goal.returns
returns c = one_tree
