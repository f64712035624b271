use Rattle.std.proofs.Common.{◌≤◌, length, ap, drop}
use Rattle.algol_meaning.specs.World as world
use Rattle.algol_cells.specs.SeenScope.{scoped}
use Rattle.algol_rest.specs.SeenRest as seen
use Rattle.algol_world.specs.SeenWorld.{process, world_of}
use Rattle.algol_instances.proofs.Numbering.{unchanged}
use Rattle.algol_world.proofs.Processes.{changed}
use Rattle.algol_perform.specs.Going.{redirected}
use Rattle.algol_perform.proofs.parts.cut_back.Goals as goal

pub returns-in_ok-cut_process-clause-went : goal.returns-in_ok-cut_process-clause-went
returns-in_ok-cut_process-clause-went c =
    let sc = scoped c.args.world.now.scopes in
    let item = c.in-Some-get_mut.ensures.item in
    rw (← c.items_mut.ensures.shows)
    (ap (λ (qs : _). record (world_of c.args.world.now) { processes = qs })
    (changed
    sc
    c.items_mut.result.now.items
    c.args.process
    c.in-Some.at
    c.in-Some-get_mut.q.now
    c.cut_process.new.q
    (λ (q : world.Process). record q { todo = redirected (drop c.args.left q.todo) (seen.rest sc c.args.rest) })
    c.in-Some.ensures
    item.3.0
    (item.3.1 c.in-Some-get_mut.q.now)
    c.in_ok-cut_process.ensures))

pub returns-in_default-get_mut-clause-went : goal.returns-in_default-get_mut-clause-went
returns-in_default-get_mut-clause-went c =
    let qs = c.args.world.now.processes in
    let past : length qs ≤ c.in-Some.at = rw (← c.items_mut.ensures.shows) c.in_default-get_mut.ensures.item.3 in
    rw c.items_mut.ensures.shows
    (ap (λ (all : _). record (world_of c.args.world.now) { processes = all })
    (unchanged qs (process (scoped c.args.world.now.scopes)) c.args.process c.in-Some.at _ c.in-Some.ensures past))
