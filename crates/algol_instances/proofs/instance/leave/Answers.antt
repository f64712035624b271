use Rattle.std.proofs.Common.{true}
use Rattle.algol_meaning.specs.World as world
use Rattle.algol_instances.proofs.Cells.{changed}
use Rattle.algol_instances.proofs.instance.leave.Goals as goal

pub returns-in-Some-get_mut : goal.returns-in-Some-get_mut
returns-in-Some-get_mut c =
    let item = c.in-Some-get_mut.ensures.item in
    rw (← c.items_mut.ensures.shows)
    (changed
    c.items_mut.result.now.items
    c.args.number
    c.in-Some.at
    c.in-Some-get_mut.instance.now
    c.leave.new.self
    (λ (i : world.Instance). record i { left = true })
    c.in-Some.ensures
    item.3.0
    (item.3.1 c.in-Some-get_mut.instance.now)
    c.leave.ensures)
