use Rattle.std.proofs.Common.{map, ap, ◌∙◌}
use Rattle.algol_meaning.specs.Value.{event}
use Rattle.b67_deeds.specs.Events.{EventState, left_by}
use Rattle.algol_meaning.specs.World.{World}
use Rattle.algol_meaning.specs.Events.{event_at}
use Rattle.algol_cells.specs.SeenCell as seen
use Rattle.algol_cells.specs.SeenCell.{reference}
use Rattle.algol_instances.specs.SeenInstance.{holding, instance}
use Rattle.algol_instances.proofs.Setting.{set_taken}
use Rattle.algol_world.proofs.waiting.leave_event.Goals as goal

pub returns : goal.returns
returns c =
    let w = holding (map instance c.args.instances.now) in
    let r = reference c.args.r in
    let e = seen.event c.take_event-event.result in
    ap (λ (v : World). v.instances)
    (set_taken w (holding (map instance c.take_event-event.new.instances)) (holding (map instance c.set_cell.new.self)) r _ (event (left_by c.args.number (event_at w r)))
    (ap holding c.take_event-event.ensures.after) (ap holding c.set_cell.ensures.after)
    (ap (λ (ps : _). event (record e { waiters = ps })) c.remove.ensures ∙ ap (λ (x : EventState). event (left_by c.args.number x)) c.take_event-event.ensures.value))
