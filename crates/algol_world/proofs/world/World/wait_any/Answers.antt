use Rattle.std.proofs.Common.{◌≡◌, List, [], map, ap, ◌∙◌}
use Rattle.b67_deeds.specs.declared.Letter.TheVariants as actions
use Rattle.algol_meaning.specs.World.{World, waits_any}
use Rattle.algol_meaning.specs.Events.{joined_all}
use Rattle.algol_cells.specs.SeenCell.{reference}
use Rattle.algol_world.specs.SeenWorld.{world_of}
use Rattle.algol_world.specs.SeenActed.{acted_choice}
use Rattle.algol_world.specs.Going.{action_chosen, standing}
use Rattle.algol_world.proofs.Several.{waits_so}
use Rattle.algol_world.proofs.world.World.wait_any.Goals as goal

pub returns-clause-acted : goal.returns-clause-acted
returns-clause-acted c =
    let w = world_of c.args.self.now in
    let n = c.args.number in
    let named = c.deref.ensures.value ∙ c.items.ensures in
    let joined = c.in_ok-join_all.ensures.joined ∙ ap (λ (rs : List _). joined_all w n [] (map reference rs)) named in
    ap (λ (a : _). acted_choice a (world_of c.stands.new.self)) c.alone.ensures
    ∙ ap (action_chosen actions.WaitAny) (waits_so w (world_of c.stands.new.self) n (map reference c.args.rs) (c.stands.ensures.went ∙ ap (λ (v : World). standing v n (waits_any (map reference c.args.rs))) joined))
