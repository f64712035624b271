use Rattle.std.proofs.Common.{List, length, refl}
use Rattle.algol_tree.specs.declared.tree.Expr.{Expr}
use Rattle.algol_tree.specs.Image.{expr, exprs}
use Rattle.algol_names.specs.Found.{in_expr, in_exprs}
use Rattle.algol_names.proofs.Adding.{list_step}
use Rattle.algol_names.proofs.expressions.+expressions.Goals as goal

pub add_in_exprs-expressions-preserved : goal.add_in_exprs-expressions-preserved
add_in_exprs-expressions-preserved t c =
    let k = length c.args.outer.now in
    list_step (λ (es : List Expr). in_exprs (exprs es) k) (λ (e : Expr). in_expr (expr e) k) (λ e es. refl) c.args.es.now c.expressions.e-index c.e-item.result
    c.expressions.names.items c.add_in_expr.new.names.items _ c.expressions-test.true c.e-item.is c.in_ok-add_in_expr.ensures c.expressions.invariant
