use Rattle.std.proofs.Common.{ap}
use Rattle.algol_meaning.specs.Value.{event}
use Rattle.b67_deeds.specs.Events.{EventState, taken}
use Rattle.algol_meaning.specs.Events.{event_at}
use Rattle.algol_cells.specs.SeenCell.{reference}
use Rattle.algol_world.specs.SeenWorld.{world_of}
use Rattle.algol_instances.proofs.Setting.{set_taken}
use Rattle.algol_world.proofs.world.World.take.Goals as goal

pub returns-clause-after : goal.returns-clause-after
returns-clause-after c =
    let w = world_of c.args.self.now in
    set_taken w (world_of c.take_event-event.new.self) (world_of c.set_cell.new.self) (reference c.args.r) _ (event (taken (event_at w (reference c.args.r))))
    c.take_event-event.ensures.after c.set_cell.ensures.after (ap (λ (e : EventState). event (taken e)) c.take_event-event.ensures.value)
