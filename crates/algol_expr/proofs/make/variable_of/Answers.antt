use Rattle.std.proofs.Common.{rules}
use Rattle.algol_tree.specs.declared.tree.Expr as exprs_of
use Rattle.algol_tree.specs.declared.tree.Variable as parts
use Rattle.algol_expr.proofs.make.variable_of.Goals as goal

pub returns : goal.returns
returns c = search (rules, exprs_of.the_lemmas, parts.the_lemmas)
