use Rattle.std.proofs.Common.{rules}
use Rattle.algol_tree.specs.declared.tree.Stmt as statements
use Rattle.algol_tree.specs.declared.tree.Variable as variables
use Rattle.algol_part.proofs.simple.assignment.Goals as goal

pub returns : goal.returns
returns c = search (rules, statements.the_lemmas, variables.the_lemmas)
