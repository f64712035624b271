use Rattle.std.proofs.Common.{◌≡◌, ap}
use Rattle.algol_tree.specs.Plain as tree
use Rattle.algol_meaning.specs.SeenTree.{expr, exprs}
use Rattle.algol_rest_expr.proofs.expression.variable.Goals as goal

pub returns-in-Some : goal.returns-in-Some
returns-in-Some c =
    let e : exprs c.args.es.now ≡ tree.more (expr c.in-Some.e.now) (exprs c.in-Some.rest.now) = ap exprs c.in-Some.ensures.cases.0 in
    rw e c.first_subscript.ensures
