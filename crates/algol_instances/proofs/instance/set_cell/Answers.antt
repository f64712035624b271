use Rattle.std.proofs.Common.{ap, sym, ◌∙◌}
use Rattle.algol_meaning.specs.World as world
use Rattle.algol_meaning.specs.World.{cells_with}
use Rattle.algol_cells.specs.SeenCell as seen
use Rattle.algol_instances.specs.SeenInstance.{instance}
use Rattle.algol_instances.specs.Counting.{displaced}
use Rattle.algol_instances.proofs.Cells.{changed}
use Rattle.algol_instances.proofs.Numbering.{get_place}
use Rattle.algol_instances.proofs.instance.set_cell.Goals as goal

pub returns-in-Some-get_mut-clause-displaced : goal.returns-in-Some-get_mut-clause-displaced
returns-in-Some-get_mut-clause-displaced c =
    let item = c.in-Some-get_mut.ensures.item in
    let x = c.in-Some-get_mut.instance.now in
    let name = c.args.r.name.now in
    let cell = seen.cell c.args.cell in
    rw (← c.items_mut.ensures.shows)
    (c.set.ensures.displaced
    ∙ ap (λ (i : _). displaced ((world.or_no_instance i).cells) name cell)
    (sym (get_place c.items_mut.result.now.items instance c.args.r.instance c.in-Some.at x c.in-Some.ensures item.3.0 (item.3.1 x))))

pub returns-in-Some-get_mut-clause-after : goal.returns-in-Some-get_mut-clause-after
returns-in-Some-get_mut-clause-after c =
    let item = c.in-Some-get_mut.ensures.item in
    rw (← c.items_mut.ensures.shows)
    (changed
    c.items_mut.result.now.items
    c.args.r.instance
    c.in-Some.at
    c.in-Some-get_mut.instance.now
    c.set.new.self
    (λ (i : world.Instance). record i { cells = cells_with i.cells c.args.r.name.now (seen.cell c.args.cell) })
    c.in-Some.ensures
    item.3.0
    (item.3.1 c.in-Some-get_mut.instance.now)
    c.set.ensures.after)
