use Rattle.std.proofs.Common.{◌≡◌, ap, sym, subst, ◌∙◌, IfOk, ℕ, true, false, List}
use Rattle.b67_deeds.specs.declared.EventAct.{EventAct}
use Rattle.b67_deeds.specs.declared.EventAct.TheVariants as act
use Rattle.b67_deeds.specs.declared.Letter.TheVariants as actions
use Rattle.b67_deeds.specs.Deeds.{acts}
use Rattle.algol_meaning.specs.World.{World}
use Rattle.algol_cells.specs.SeenScope.{scoped}
use Rattle.algol_cells.specs.SeenCell.{reference}
use Rattle.algol_world.specs.SeenWorld.{world_of}
use Rattle.algol_world.specs.SeenActed.{acted_choice}
use Rattle.algol_world.specs.Going.{releasing, letting_go, done_with, does_by}
use Rattle.algol_world.proofs.Deeds.{causes, causes_and_resets, resets, liberates}
use Rattle.algol_world.proofs.world.World.act.Goals as goal

pub returns-in-Cause-clause-acted : goal.returns-in-Cause-clause-acted
returns-in-Cause-clause-acted c =
    let sc = scoped c.args.self.now.scopes in
    let w = world_of c.args.self.now in
    let n = c.args.number in
    let r = reference c.args.r in
    let ps = c.let_go-released.result in
    let after = world_of c.let_go-released.new.self in
    subst (λ x. IfOk c.goes_releasing.result (λ a. acted_choice a (world_of c.goes_releasing.new.self) ≡ x))
    (ap (λ s. releasing (scoped s) actions.Cause after n ps) c.let_go-released.ensures.same
    ∙ ap (λ (v : World). releasing sc actions.Cause v n ps) c.let_go-released.ensures.after
    ∙ ap (λ (qs : List ℕ). releasing sc actions.Cause ((letting_go w r true).world) n qs) c.let_go-released.ensures.released
    ∙ causes sc w n c.requires.able c.requires.acts r
    ∙ ap (λ (x : EventAct). does_by sc w n (acts x) r) (sym c.in-Cause.is))
    c.goes_releasing.ensures.acted

pub returns-in-CauseAndReset-clause-acted : goal.returns-in-CauseAndReset-clause-acted
returns-in-CauseAndReset-clause-acted c =
    let sc = scoped c.args.self.now.scopes in
    let w = world_of c.args.self.now in
    let n = c.args.number in
    let r = reference c.args.r in
    let ps = c.let_go-released-in-CauseAndReset.result in
    let after = world_of c.let_go-released-in-CauseAndReset.new.self in
    subst (λ x. IfOk c.goes_releasing-in-CauseAndReset.result (λ a. acted_choice a (world_of c.goes_releasing-in-CauseAndReset.new.self) ≡ x))
    (ap (λ s. releasing (scoped s) actions.CauseAndReset after n ps) c.let_go-released-in-CauseAndReset.ensures.same
    ∙ ap (λ (v : World). releasing sc actions.CauseAndReset v n ps) c.let_go-released-in-CauseAndReset.ensures.after
    ∙ ap (λ (qs : List ℕ). releasing sc actions.CauseAndReset ((letting_go w r false).world) n qs) c.let_go-released-in-CauseAndReset.ensures.released
    ∙ causes_and_resets sc w n c.requires.able c.requires.acts r
    ∙ ap (λ (x : EventAct). does_by sc w n (acts x) r) (sym c.in-CauseAndReset.is))
    c.goes_releasing-in-CauseAndReset.ensures.acted

pub returns-in-Reset-clause-acted : goal.returns-in-Reset-clause-acted
returns-in-Reset-clause-acted c =
    let sc = scoped c.args.self.now.scopes in
    let w = world_of c.args.self.now in
    let n = c.args.number in
    let r = reference c.args.r in
    let ps = c.no_items.result in
    let after = world_of c.reset.new.self in
    subst (λ x. IfOk c.goes_releasing-in-Reset.result (λ a. acted_choice a (world_of c.goes_releasing-in-Reset.new.self) ≡ x))
    (ap (λ s. releasing (scoped s) actions.Reset after n ps) c.reset.ensures.same
    ∙ ap (λ (v : World). releasing sc actions.Reset v n ps) (c.reset.ensures.after n)
    ∙ ap (λ (qs : List ℕ). releasing sc actions.Reset ((done_with w n (acts act.Reset) r).world) n qs) c.no_items.ensures
    ∙ resets sc w n c.requires.able c.requires.acts r
    ∙ ap (λ (x : EventAct). does_by sc w n (acts x) r) (sym c.in-Reset.is))
    c.goes_releasing-in-Reset.ensures.acted

pub returns-in_ok-released-in-Liberate-clause-acted : goal.returns-in_ok-released-in-Liberate-clause-acted
returns-in_ok-released-in-Liberate-clause-acted c =
    let sc = scoped c.args.self.now.scopes in
    let w = world_of c.args.self.now in
    let n = c.args.number in
    let r = reference c.args.r in
    let ps = c.in_ok-released-in-Liberate.released in
    let after = world_of c.liberate.new.self in
    subst (λ x. IfOk c.goes_releasing-in-Liberate.result (λ a. acted_choice a (world_of c.goes_releasing-in-Liberate.new.self) ≡ x))
    (ap (λ s. releasing (scoped s) actions.Liberate after n ps) c.in_ok-released-in-Liberate.ensures.same
    ∙ ap (λ (v : World). releasing sc actions.Liberate v n ps) (c.in_ok-released-in-Liberate.ensures.after n)
    ∙ ap (λ (qs : List ℕ). releasing sc actions.Liberate ((done_with w n (acts act.Liberate) r).world) n qs) (c.in_ok-released-in-Liberate.ensures.released n)
    ∙ liberates sc w n c.requires.able c.requires.acts r
    ∙ ap (λ (x : EventAct). does_by sc w n (acts x) r) (sym c.in-Liberate.is))
    c.goes_releasing-in-Liberate.ensures.acted
