use Rattle.std.proofs.Common.{rules}
use Rattle.algol_tree.specs.declared.tree.Stmt as statements
use Rattle.algol_tree.specs.declared.tree.Body as bodies
use Rattle.algol_stmt.proofs.make.compound.Goals as goal

pub returns : goal.returns
returns c = search (rules, statements.the_lemmas, bodies.the_lemmas)
