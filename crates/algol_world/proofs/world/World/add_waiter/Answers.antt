use Rattle.std.proofs.Common.{ap, ◌∙◌}
use Rattle.algol_meaning.specs.Value.{event}
use Rattle.b67_deeds.specs.Events.{EventState, joined}
use Rattle.algol_meaning.specs.Events.{event_at}
use Rattle.algol_cells.specs.SeenCell as seen
use Rattle.algol_cells.specs.SeenCell.{reference}
use Rattle.algol_world.specs.SeenWorld.{world_of}
use Rattle.algol_instances.proofs.Setting.{set_taken}
use Rattle.algol_world.proofs.world.World.add_waiter.Goals as goal

pub returns-clause-after : goal.returns-clause-after
returns-clause-after c =
    let w = world_of c.args.self.now in
    let e = seen.event c.take_event-event.result in
    set_taken w (world_of c.take_event-event.new.self) (world_of c.set_cell.new.self) (reference c.args.r) _ (event (joined c.args.number (event_at w (reference c.args.r))))
    c.take_event-event.ensures.after c.set_cell.ensures.after
    (ap (λ (ps : _). event (record e { waiters = ps })) c.in_ok-append.ensures ∙ ap (λ (e : EventState). event (joined c.args.number e)) c.take_event-event.ensures.value)
