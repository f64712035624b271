use Rattle.std.proofs.Common.{length, ap, sym, ◌∙◌}
use Rattle.algol_meaning.specs.World.{World}
use Rattle.b67_deeds.specs.declared.Letter.TheVariants as actions
use Rattle.algol_meaning.specs.Instances.{leave}
use Rattle.algol_rest.specs.SeenRest as seen
use Rattle.algol_cells.specs.SeenScope.{scoped}
use Rattle.algol_cells.specs.declared.scope.Scopes.{Scopes}
use Rattle.algol_world.specs.Going.{action_chosen}
use Rattle.algol_world.specs.SeenActed.{acted_choice}
use Rattle.algol_world.specs.SeenWorld.{world_of}
use Rattle.algol_world.specs.declared.acted.Acted.{Acted}
use Rattle.algol_perform.specs.Going.{owned, going_back}
use Rattle.algol_perform.proofs.Jumps.{goes_to_nothing, goes_back}
use Rattle.algol_perform.proofs.going.go_back.Goals as goal

pub returns-then-is_past-clause-gone : goal.returns-then-is_past-clause-gone
returns-then-is_past-clause-gone c =
    ap (λ (a : Acted). acted_choice a (world_of c.args.world.now)) c.alone.ensures
    ∙ goes_to_nothing (scoped c.args.world.now.scopes) (world_of c.args.world.now) c.args.process c.args.n.now c.args.number c.args.left.now
    c.requires.own c.requires.free c.requires.acts c.requires.left (sym c.is_past.ensures ∙ c.if-is_past.true)

pub returns-clause-gone : goal.returns-clause-gone
returns-clause-gone c =
    let w = world_of c.args.world.now in
    let p = c.args.process in
    let left = c.args.left.now in
    let rest = c.in_ok-rest.rest in
    let gone =
    c.in_ok-cut_back.ensures.went
    ∙ ap (λ (v : World). going_back v p (length left) (seen.rest (scoped c.leave_all.new.world.scopes) rest)) c.leave_all.ensures.left
    ∙ ap (λ (s : Scopes). going_back (leave w (owned left)) p (length left) (seen.rest (scoped s) rest)) c.leave_all.ensures.same
    ∙ ap (going_back (leave w (owned left)) p (length left)) c.in_ok-rest.ensures in
    ap (λ (a : Acted). acted_choice a (world_of c.cut_back.new.world)) c.alone-2.ensures
    ∙ ap (action_chosen actions.GoTo) gone
    ∙ goes_back (scoped c.args.world.now.scopes) w p c.args.n.now c.args.number left c.requires.own c.requires.free c.requires.acts c.requires.left
    (sym c.is_past.ensures ∙ c.if-is_past.false)
