use Rattle.std.proofs.Common.{[], ap, ◌∙◌}
use Rattle.algol_meaning.specs.Value.{event}
use Rattle.b67_deeds.specs.Events.{EventState}
use Rattle.algol_meaning.specs.World as world
use Rattle.algol_meaning.specs.Events.{event_at, set_event, all_withdrawn}
use Rattle.algol_cells.specs.SeenCell as seen
use Rattle.algol_cells.specs.SeenCell.{reference}
use Rattle.algol_world.specs.SeenWorld.{world_of}
use Rattle.algol_instances.proofs.Setting.{set_taken}
use Rattle.algol_world.proofs.world.World.let_go.Goals as goal

pub returns-clause-after : goal.returns-clause-after
returns-clause-after c =
    let w = world_of c.args.self.now in
    let r = reference c.args.r in
    let b = c.args.happened in
    let empty = c.no_items.ensures in
    let e = seen.event c.take_event-available.result in
    let ps = c.take_event-available.result.waiters in
    let left = simp (c.deref.ensures.value, c.items.ensures) at c.withdraw_all.ensures.went in
    let went = simp (c.deref-2.ensures.value, c.items-2.ensures) at c.release.ensures.went in
    let set =
    set_taken w (world_of c.take_event-available.new.self) (world_of c.set_cell.new.self) r _ (event (record (event_at w r) { happened = b; waiters = [] }))
    c.take_event-available.ensures.after c.set_cell.ensures.after
    (ap (λ (qs : _). event (record e { happened = b; waiters = qs })) empty ∙ ap (λ (e : EventState). event (record e { happened = b; waiters = [] })) c.take_event-available.ensures.value) in
    went
    ∙ ap (λ (v : world.World). world.set_all_able v ps) left
    ∙ ap (λ (v : world.World). world.set_all_able (all_withdrawn v r ps) ps) set
    ∙ ap (λ (e : EventState). world.set_all_able (all_withdrawn (set_event w r (record (event_at w r) { happened = b; waiters = [] })) r e.waiters) e.waiters) c.take_event-available.ensures.value
