use Rattle.std.proofs.Common.{rules, sym, ap, ◌∙◌, length, slice_get}
use Rattle.algol_meaning.specs.Settle.{settle, callee, sorts_of}
use Rattle.algol_meaning.specs.SeenTree.{expr, exprs}
use Rattle.algol_cells.specs.SeenScope.{by_value_or_none, scoped}
use Rattle.algol_rest_expr.specs.SeenExpression.{all_done}
use Rattle.algol_rest_expr.proofs.Supplying.{none_takes, one_takes}
use Rattle.algol_rest_expr.proofs.expression.supply.Goals as goal

pub returns-in-None : goal.returns-in-None
returns-in-None c =
    none_takes (scoped c.args.scopes.now) c.args.callee.now (length c.args.gs) (expr c.args.e.now)
    (settle (scoped c.args.scopes.now) (expr c.args.e.now)) (all_done c.args.gs) (exprs c.args.rest.now)
    (sym c.in-None.is ∙ c.is_by_value.ensures ∙ ap (λ k. by_value_or_none (slice_get (sorts_of ((callee (scoped c.args.scopes.now) c.args.callee.now).parameters)) k)) (search (rules)))

pub returns-in-Some : goal.returns-in-Some
returns-in-Some c =
    rw
    (one_takes (scoped c.args.scopes.now) c.args.callee.now (length c.args.gs) (expr c.args.e.now)
    (settle (scoped c.args.scopes.now) (expr c.args.e.now)) (all_done c.args.gs) (exprs c.args.rest.now) c.in-Some.by_value (sym c.in-Some.is ∙ c.is_by_value.ensures ∙ ap (λ k. by_value_or_none (slice_get (sorts_of ((callee (scoped c.args.scopes.now) c.args.callee.now).parameters)) k)) (search (rules))))
    c.supply_one.ensures
