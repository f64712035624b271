use Rattle.std.proofs.Common.{◌≡◌, ◌≤◌, length}
use Rattle.algol_meaning.specs.Settle.{settle_actuals}
use Rattle.algol_meaning.specs.SeenTree.{exprs}
use Rattle.algol_cells.specs.SeenScope.{scoped}
use Rattle.algol_rest_expr.specs.SeenExpression.{all_done, sorts_from, exprs_size}
use Rattle.algol_rest_expr.proofs.expression.supplied.Given as goal

abbrev pub invariant-supplying : goal.invariant-supplying
invariant-supplying l =
    (settle_actuals (scoped l.scopes) (exprs l.es) (sorts_from (scoped l.scopes) l.callee (length l.gs)) (all_done l.gs)
    ≡ settle_actuals (scoped l.scopes) (exprs l.initial.es) (sorts_from (scoped l.scopes) l.callee (length l.initial.gs)) (all_done l.initial.gs))
    × (exprs_size (exprs l.es) ≤ exprs_size (exprs l.initial.es))

abbrev pub decreases-supplying : goal.decreases-supplying
decreases-supplying l = length l.es
