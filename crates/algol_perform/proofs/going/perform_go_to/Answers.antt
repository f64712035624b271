use Rattle.std.proofs.Common.{◌≡◌, true, List, ℕ, Option, ap, sym, ◌∙◌}
use Rattle.b67_deeds.specs.declared.Letter.TheVariants as actions
use Rattle.algol_meaning.specs.Critical.{some_depends_on_any}
use Rattle.algol_cells.specs.SeenScope.{scoped}
use Rattle.algol_world.specs.Going.{action_chosen}
use Rattle.algol_world.specs.SeenActed.{acted_choice}
use Rattle.algol_world.specs.SeenWorld.{world_of}
use Rattle.algol_world.specs.declared.acted.Acted.{Acted}
use Rattle.algol_perform.specs.Going.{owned}
use Rattle.algol_perform.proofs.Jumps.{goes_past_critical}
use Rattle.algol_perform.proofs.going.perform_go_to.Goals as goal

pub returns-then-some_depends_on_any-clause-performed : goal.returns-then-some_depends_on_any-clause-performed
returns-then-some_depends_on_any-clause-performed c =
    let w = world_of c.args.world.now in
    let left = c.in_ok-left.left in
    let depends : some_depends_on_any w.processes (owned left) ≡ true =
    ap (λ (l : List (Option ℕ)). some_depends_on_any w.processes (owned l)) (sym (c.deref.ensures.value ∙ c.items.ensures))
    ∙ sym c.some_depends_on_any.ensures ∙ c.if-some_depends_on_any.true in
    ap (λ (a : Acted). acted_choice a (world_of c.fail-then-some_depends_on_any.new.self)) c.alone-then-some_depends_on_any.ensures
    ∙ ap (action_chosen actions.Fault) c.fail-then-some_depends_on_any.ensures.failed
    ∙ goes_past_critical (scoped c.args.world.now.scopes) w c.args.process c.args.n.now c.args.number left c.requires.acts
    (sym c.is_own.ensures ∙ c.if-not-is_own.false) c.in_ok-left.ensures depends
