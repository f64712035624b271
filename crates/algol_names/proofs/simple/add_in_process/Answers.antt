use Rattle.std.proofs.Common.{refl, length, ◌∷◌, []}
use Rattle.algol_tree.specs.Image.{exprs}
use Rattle.algol_names.specs.Found.{at, in_exprs, in_task}
use Rattle.algol_names.proofs.Adding.{added, processed, then_added}
use Rattle.algol_names.proofs.simple.add_in_process.Goals as goal

pub returns : goal.returns
returns c =
    let k = length c.args.outer.now in
    let actuals = c.exprs_in.result.now in
    let old = c.args.names.now.items in
    let here = at c.args.c.now.name k in
    let task = in_task c.args.task.now k in
    then_added c.add_in_exprs.result old c.add_task.new.names.items c.add_in_exprs.new.names.items (here ∷ task) (in_exprs (exprs actuals) k) _
    (processed c.args.c.now c.args.task.now actuals k c.exprs_in.ensures)
    (added old c.add.new.names.items c.add_task.new.names.items (here ∷ []) task _ refl c.in_ok-add.ensures c.in_ok-add_task.ensures)
    c.add_in_exprs.ensures
