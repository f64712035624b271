use Rattle.std.proofs.Common.{◌++◌}
use Rattle.std.proofs.lemmas.Result.{IfOk-weaker, on_err_weaker}
use Rattle.algol_meaning.specs.World as world
use Rattle.algol_instances.specs.SeenInstance.{named_cells}
use Rattle.algol_instances.proofs.Cells.{changed, unchanged_at}
use Rattle.algol_instances.proofs.instance.add_cells.Goals as goal

pub returns-in-Some-get_mut-clause-added : goal.returns-in-Some-get_mut-clause-added
returns-in-Some-get_mut-clause-added c =
    let item = c.in-Some-get_mut.ensures.item in
    rw (← c.items_mut.ensures.shows)
    (IfOk-weaker c.add.result _ _
    (λ _ h. changed
    c.items_mut.result.now.items
    c.args.number
    c.in-Some.at
    c.in-Some-get_mut.instance.now
    c.add.new.self
    (λ (i : world.Instance). record i { cells = i.cells ++ named_cells c.args.cells.items })
    c.in-Some.ensures
    item.3.0
    (item.3.1 c.in-Some-get_mut.instance.now)
    h)
    c.add.ensures.added)

pub returns-in-Some-get_mut-clause-err : goal.returns-in-Some-get_mut-clause-err
returns-in-Some-get_mut-clause-err c =
    let item = c.in-Some-get_mut.ensures.item in
    rw (← c.items_mut.ensures.shows)
    (on_err_weaker c.add.result
    (λ h. unchanged_at
    c.items_mut.result.now.items
    c.args.number
    c.in-Some.at
    c.in-Some-get_mut.instance.now
    c.add.new.self
    c.in-Some.ensures
    item.3.0
    (item.3.1 c.in-Some-get_mut.instance.now)
    h)
    c.add.ensures.err)
