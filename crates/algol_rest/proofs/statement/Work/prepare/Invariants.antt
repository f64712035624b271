use Rattle.std.proofs.Common.{◌≡◌, [], length}
use Rattle.algol_meaning.specs.Settle.{settle_actuals}
use Rattle.algol_meaning.specs.SeenTree.{exprs}
use Rattle.algol_cells.specs.SeenScope.{scoped}
use Rattle.algol_rest_expr.specs.SeenExpression.{all_done, sorts_from, exprs_size}
use Rattle.algol_rest.proofs.statement.Work.prepare.Given as goal

abbrev pub invariant-preparing : goal.invariant-preparing
invariant-preparing l =
    (l.self.frames ≡ [])
    × (l.self.todo ≡ l.initial.self.todo)
    × (settle_actuals (scoped l.scopes) (exprs l.es) (sorts_from (scoped l.scopes) l.n (length l.gs)) (all_done l.gs)
    ≡ settle_actuals (scoped l.scopes) (exprs l.initial.es) (sorts_from (scoped l.scopes) l.n (length l.initial.gs)) (all_done l.initial.gs))

abbrev pub decreases-preparing : goal.decreases-preparing
decreases-preparing l = exprs_size (exprs l.es)
