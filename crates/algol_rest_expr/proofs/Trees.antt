-- The plain trees of parts of a tree.
use Rattle.std.proofs.Common.{rules, ◌≡◌}
use Rattle.algol_tree.specs.Plain as tree
use Rattle.algol_tree.specs.declared.tree.Expr.{the_lemmas}
use Rattle.algol_tree.specs.declared.tree.Expr.TheVariants as shapes
use Rattle.algol_tree.specs.declared.tree.Variable as variables
use Rattle.algol_tree.specs.declared.tree.Variable.{Variable}
use Rattle.algol_meaning.specs.SeenTree.{expr, exprs}

pub expr_of_variable : (v : Variable) → expr (shapes.Variable v) ≡ tree.variable (tree.subscripted v.name (exprs v.subs))
expr_of_variable v = search (rules, the_lemmas, variables.the_lemmas)
