use Rattle.std.proofs.Common.{refl, length, ◌∷◌, []}
use Rattle.algol_tree.specs.Image.{expr, exprs}
use Rattle.algol_names.specs.Found.{at_left, in_expr, in_exprs}
use Rattle.algol_names.proofs.Adding.{added, assigned, then_added}
use Rattle.algol_names.proofs.simple.add_in_assignment.Goals as goal

pub returns : goal.returns
returns c =
    let k = length c.args.outer.now in
    let subs = c.exprs_in.result.now in
    let old = c.args.names.now.items in
    let here = at_left c.args.v.now.name k in
    then_added c.add_in_expr.result old c.add_in_exprs.new.names.items c.add_in_expr.new.names.items (here ∷ in_exprs (exprs subs) k) (in_expr (expr c.args.e.now) k) _
    (assigned c.args.v.now subs (expr c.args.e.now) k c.exprs_in.ensures)
    (added old c.add_left.new.names.items c.add_in_exprs.new.names.items (here ∷ []) (in_exprs (exprs subs) k) _ refl c.in_ok-add_left.ensures c.in_ok-add_in_exprs.ensures)
    c.add_in_expr.ensures
