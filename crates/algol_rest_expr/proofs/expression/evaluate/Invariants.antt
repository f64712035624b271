use Rattle.std.proofs.Common.{◌≡◌}
use Rattle.algol_cells.specs.SeenScope.{scoped}
use Rattle.algol_rest_expr.specs.SeenExpression.{refilled, half, weigh_control}
use Rattle.algol_rest_expr.proofs.expression.evaluate.Given as goal

abbrev pub invariant-evaluating : goal.invariant-evaluating
invariant-evaluating l =
    refilled (scoped l.scopes) l.frames (half (scoped l.scopes) l.control)
    ≡ refilled (scoped l.scopes) l.initial.frames (half (scoped l.scopes) l.initial.control)

abbrev pub decreases-evaluating : goal.decreases-evaluating
decreases-evaluating l = weigh_control l.control l.frames
