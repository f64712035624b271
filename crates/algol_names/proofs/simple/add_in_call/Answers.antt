use Rattle.std.proofs.Common.{length, ◌∷◌, []}
use Rattle.algol_tree.specs.Image.{exprs}
use Rattle.algol_names.specs.Found.{at, in_exprs}
use Rattle.algol_names.proofs.Adding.{called, then_added}
use Rattle.algol_names.proofs.simple.add_in_call.Goals as goal

pub returns : goal.returns
returns c =
    let k = length c.args.outer.now in
    let actuals = c.exprs_in.result.now in
    then_added c.add_in_exprs.result c.args.names.now.items c.add.new.names.items c.add_in_exprs.new.names.items (at c.args.c.now.name k ∷ []) (in_exprs (exprs actuals) k) _
    (called c.args.c.now actuals k c.exprs_in.ensures) c.in_ok-add.ensures c.add_in_exprs.ensures
