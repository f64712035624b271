use Rattle.std.proofs.Common.{◌≡◌, ◌≤◌, length, map, ap, sym, ◌∙◌}
use Rattle.algol_meaning.specs.World as world
use Rattle.algol_meaning.specs.Events.{list_in, forgotten, woken_by}
use Rattle.algol_cells.specs.SeenCell.{reference}
use Rattle.algol_cells.specs.SeenScope.{scoped}
use Rattle.algol_instances.specs.SeenInstance.{holding}
use Rattle.algol_instances.proofs.Numbering.{get_place}
use Rattle.algol_world.specs.SeenWorld.{process, world_of}
use Rattle.algol_world.proofs.Processes.{changed}
use Rattle.algol_world.proofs.Several.{withdrawn_so, withdrawn_none, no_number, numbered_past}
use Rattle.algol_world.proofs.world.World.withdraw.Goals as goal

pub returns-in-Some-get_mut-clause-went : goal.returns-in-Some-get_mut-clause-went
returns-in-Some-get_mut-clause-went c =
    let sc = scoped c.args.self.now.scopes in
    let n = c.args.number in
    let r = reference c.args.r in
    let q = c.in-Some-get_mut.q.now in
    let qs = c.items_mut.result.now.items in
    let v = record (world_of c.args.self.now) { processes = map (process sc) qs } in
    let item = c.in-Some-get_mut.ensures.item in
    let at : world.process_at v n ≡ process sc q =
    ap world.or_no_process (get_place qs (process sc) n c.in-Some.at q c.in-Some.ensures item.3.0 (item.3.1 q)) in
    rw (← c.items_mut.ensures.shows)
    (withdrawn_so v r n _ _
    (c.withdraw.ensures.left ∙ ap (λ (p : world.Process). (forgotten (holding v.instances) n (list_in p.state)).instances) (sym at))
    (changed
    sc
    qs
    n
    c.in-Some.at
    q
    c.withdraw.new.self
    (λ (p : world.Process). record p { woken = woken_by r p })
    c.in-Some.ensures
    item.3.0
    (item.3.1 q)
    c.withdraw.ensures.told))

pub returns-in_default-get_mut-clause-went : goal.returns-in_default-get_mut-clause-went
returns-in_default-get_mut-clause-went c =
    let sc = scoped c.args.self.now.scopes in
    let qs = c.args.self.now.processes in
    let past : length qs ≤ c.in-Some.at = rw (← c.items_mut.ensures.shows) c.in_default-get_mut.ensures.item.3 in
    rw c.items_mut.ensures.shows
    (withdrawn_none (world_of c.args.self.now) (reference c.args.r) c.args.number (numbered_past qs (process sc) c.args.number c.in-Some.at c.in-Some.ensures past))

pub returns-in_default-clause-went : goal.returns-in_default-clause-went
returns-in_default-clause-went c =
    withdrawn_none (world_of c.args.self.now) (reference c.args.r) c.args.number (no_number (world_of c.args.self.now).processes c.args.number c.in_default.ensures)
