use Rattle.algol_grammar.proofs.OneTree.{one_tree_of_text}
use Rattle.algol_grammar.proofs.texts_have_one_tree.Goals as goal

pub returns : goal.returns
returns c = one_tree_of_text
