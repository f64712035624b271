use Rattle.std.proofs.Common.{◌≡◌, map, subst, IfOk, Some}
use Rattle.b67_deeds.specs.Events.{joined}
use Rattle.algol_meaning.specs.Events.{change_event}
use Rattle.algol_cells.specs.SeenCell.{reference}
use Rattle.algol_world.specs.SeenWorld.{world_of}
use Rattle.algol_world.proofs.Several.{stays_joined, joins_once}
use Rattle.algol_world.proofs.world.World.join.Goals as goal

pub returns-in-None-clause-joined : goal.returns-in-None-clause-joined
returns-in-None-clause-joined c =
    let w = world_of c.args.self.now in
    subst (λ v. IfOk c.add_waiter.result (λ _. world_of c.add_waiter.new.self ≡ v))
    (joins_once w (change_event w (reference c.args.r) (Some (joined c.args.number))) (reference c.args.r) (map reference c.args.before.now) c.in-None.ensures)
    c.add_waiter.ensures.after

pub returns-in-Some-clause-joined : goal.returns-in-Some-clause-joined
returns-in-Some-clause-joined c =
    let w = world_of c.args.self.now in
    stays_joined w (change_event w (reference c.args.r) (Some (joined c.args.number))) (reference c.args.r) (map reference c.args.before.now) c.in-Some.field-0
    c.in-Some.ensures
