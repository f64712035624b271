use Rattle.std.proofs.Common.{◌≡◌, refl, sym, ap, subst, ◌∙◌, ℕ, ◌<◌, length, Some, arith}
use Rattle.std.specs.Prelude.{slice_get, IfSome}
use Rattle.std.proofs.lemmas.Option.{slice_get-get_or, slice_get_within}
use Rattle.b67_segment.specs.declared.code.Code.{Code}
use Rattle.b67_outcomes.specs.declared.found.State.{State}
use Rattle.b67_outcomes.specs.Finding.{NumberIsAt, IsSearched, IsExpanded}
use Rattle.b67_outcomes.specs.Kept.{AreOpen, IsReady, IsTree}
use Rattle.b67_outcomes.proofs.Keeping.{arrived_stays}
use Rattle.b67_outcomes.proofs.Closing.{begun_searched, expanded_next, all_noted, closed, closure}
use Rattle.b67_outcomes.proofs.Trees.{ready_next, expanded_open, some_stay}
use Rattle.b67_outcomes.proofs.search.explore.Goals as goal

pub begin-requires-clause-searched : goal.begin-requires-clause-searched
begin-requires-clause-searched g c =
    begun_searched (g.W.Walker.code c.args.walker.now) c.args.most _ c.requires.few c.new.ensures.items c.new-2.ensures.items c.new-3.ensures.items refl

pub expand-requires-clause-there : goal.expand-requires-clause-there
expand-requires-clause-there g c =
    let s : State = c.index.result.now in
    let within : c.states.done < length c.states.found.states.items = omega (arith, c.states-test.true, c.states.found.states.ok.0) in
    c.states.invariant.2.states c.states.done s (slice_get-get_or c.states.found.states.items c.states.done s within ∙ ap Some (sym c.index.ensures))

pub expand-requires-clause-state : goal.expand-requires-clause-state
expand-requires-clause-state g c =
    let s : State = c.index.result.now in
    let within : c.states.done < length c.states.found.states.items = omega (arith, c.states-test.true, c.states.found.states.ok.0) in
    (c.states.done, s, slice_get-get_or c.states.found.states.items c.states.done s within ∙ ap Some (sym c.index.ensures), refl)

pub expand-requires-clause-tree : goal.expand-requires-clause-tree
expand-requires-clause-tree g c =
    let i = c.states.invariant in
    let code = g.W.Walker.code c.args.walker.now in
    let s : State = c.index.result.now in
    let within : c.states.done < length c.states.found.states.items = omega (arith, c.states-test.true, c.states.found.states.ok.0) in
    let there : slice_get c.states.found.states.items c.states.done ≡ Some s =
    slice_get-get_or c.states.found.states.items c.states.done s within ∙ ap Some (sym c.index.ensures) in
    subst (λ (k : Code). IsTree k (g.W.Walker.Local k) c.states.found × IsReady c.states.found s.number 0) (sym i.0)
    (i.6, ready_next code (g.W.Walker.Local code) c.states.found c.states.done s i.6 i.7 there)

pub states-preserved : goal.states-preserved
states-preserved g c =
    let i = c.states.invariant in
    let code = g.W.Walker.code c.args.walker.now in
    let s : State = c.index.result.now in
    let within : c.states.done < length c.states.found.states.items = omega (arith, c.states-test.true, c.states.found.states.ok.0) in
    let there : slice_get c.states.found.states.items c.states.done ≡ Some s =
    slice_get-get_or c.states.found.states.items c.states.done s within ∙ ap Some (sym c.index.ensures) in
    let grows = c.in_ok-at-2.ensures.grows in
    let tree : IsTree code (g.W.Walker.Local code) c.expand.new.found × AreOpen c.expand.new.found s.number =
    subst (λ (k : Code). IsTree k (g.W.Walker.Local k) c.expand.new.found × AreOpen c.expand.new.found s.number) i.0 c.in_ok-at-2.ensures.tree in (
      c.expand.ensures.code ∙ i.0,
      c.expand.ensures.second ∙ i.1,
      subst (λ (k : Code). IsSearched k c.args.most c.expand.new.found) i.0 c.in_ok-at-2.ensures.searched,
      λ e. arrived_stays code (g.W.Walker.Local code) c.states.found c.expand.new.found _ grows (i.3 (grows.cut e)),
      expanded_next code (g.W.Walker.Local code) c.states.found c.expand.new.found c.states.done s grows there i.4
          (subst (λ (k : Code). IsExpanded k (g.W.Walker.Local k) c.expand.new.found s.number) i.0 c.in_ok-at-2.ensures.expanded),
      subst (λ (k : Code). IfSome c.in_ok-at-2.at (λ (n : ℕ). NumberIsAt k c.expand.new.found.steps.items n (g.W.Walker.image c.expand.new.walker))) i.0
          c.in_ok-at-2.ensures.stands,
      tree.0,
      expanded_open code (g.W.Walker.Local code) c.states.found c.expand.new.found c.states.done s grows tree.0 tree.1 there,
      some_stay c.states.found c.expand.new.found grows i.8,
      c.in_ok-at-2.ensures.room,
    )

pub returns-clause-kept : goal.returns-clause-kept
returns-clause-kept g c = (c.states.invariant.6, c.states.invariant.8)

pub returns-clause-noted : goal.returns-clause-noted
returns-clause-noted g c =
    let i = c.states.invariant in
    let code = g.W.Walker.code c.args.walker.now in
    all_noted code (g.W.Walker.Local code) c.states.found
    (λ k s there.
    let within = slice_get_within c.states.found.states.items k s there in
    i.4 k s (omega (arith, within, c.states-test.false, c.states.found.states.ok.0)) there)

pub returns-clause-closed : goal.returns-clause-closed
returns-clause-closed g c = λ e.
    let i = c.states.invariant in
    let code = g.W.Walker.code c.args.walker.now in
    closed code (g.W.Walker.Local code) c.states.found e (i.3 e)
    (λ k s there.
    let within = slice_get_within c.states.found.states.items k s there in
    i.4 k s (omega (arith, within, c.states-test.false, c.states.found.states.ok.0)) there)

pub returns-clause-all : goal.returns-clause-all
returns-clause-all g c = λ laws e.
    let i = c.states.invariant in
    let code = g.W.Walker.code c.args.walker.now in
    closure code (g.W.Walker.Local code) laws c.states.found e
    (λ k s there.
    let within = slice_get_within c.states.found.states.items k s there in
    i.4 k s (omega (arith, within, c.states-test.false, c.states.found.states.ok.0)) there)
    (i.3 e)
