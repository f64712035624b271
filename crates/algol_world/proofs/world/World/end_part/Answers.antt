use Rattle.std.proofs.Common.{◌≤◌, length, ap}
use Rattle.algol_meaning.specs.World as world
use Rattle.algol_cells.specs.SeenScope.{scoped}
use Rattle.algol_rest_expr.specs.SeenExpression.{rest_answered}
use Rattle.algol_world.specs.Leaving.{left_todo}
use Rattle.algol_world.specs.SeenWorld.{process, world_of}
use Rattle.algol_instances.proofs.Numbering.{unchanged}
use Rattle.algol_world.proofs.Processes.{if_ok, changed}
use Rattle.algol_world.proofs.world.World.end_part.Goals as goal

pub returns-in-Some-get_mut-clause-went : goal.returns-in-Some-get_mut-clause-went
returns-in-Some-get_mut-clause-went c =
    let sc = scoped c.args.self.now.scopes in
    let item = c.in-Some-get_mut.ensures.item in
    if_ok c.end_part.result
    (λ _ gone. rw (← c.items_mut.ensures.shows)
    (ap (λ (qs : _). record (world_of c.args.self.now) { processes = qs })
    (changed
    sc
    c.items_mut.result.now.items
    c.args.number
    c.in-Some.at
    c.in-Some-get_mut.q.now
    c.end_part.new.self
    (λ (q : world.Process). record q { todo = left_todo sc q.todo (rest_answered c.args.answer) })
    c.in-Some.ensures
    item.3.0
    (item.3.1 c.in-Some-get_mut.q.now)
    gone)))
    c.end_part.ensures

pub returns-in-None-get_mut-clause-went : goal.returns-in-None-get_mut-clause-went
returns-in-None-get_mut-clause-went c =
    let qs = c.args.self.now.processes in
    let past : length qs ≤ c.in-Some.at = rw (← c.items_mut.ensures.shows) c.in-None-get_mut.ensures.item.3 in
    rw c.items_mut.ensures.shows
    (ap (λ (all : _). record (world_of c.args.self.now) { processes = all })
    (unchanged qs (process (scoped c.args.self.now.scopes)) c.args.number c.in-Some.at _ c.in-Some.ensures past))
