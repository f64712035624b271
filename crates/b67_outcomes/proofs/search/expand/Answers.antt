use Rattle.std.proofs.Common.{◌≡◌, refl, sym, subst, ◌∙◌, ℕ, ◌+◌, true, List, Option, arith}
use Rattle.std.specs.Prelude.{IfSome}
use Rattle.b67_segment.specs.declared.code.Code.{Code}
use Rattle.b67_table.specs.Image.{Image}
use Rattle.b67_table.specs.Ending.{may_act}
use Rattle.b67_outcomes.specs.declared.found.Step.{Step}
use Rattle.b67_outcomes.specs.Finding.{History, FoundGrows, NumberIsAt, IsLed, IsSearched, IsFollowed, IsExpanded, IsLastAble}
use Rattle.b67_outcomes.specs.Kept.{AreOpen, IsReady, IsTree}
use Rattle.b67_outcomes.proofs.Histories.{at_one, at_stays, ok_map, ok_both}
use Rattle.b67_outcomes.proofs.Keeping.{steps_few, same_grows, same_searched, grown_history, grown_more, followed_idle}
use Rattle.b67_outcomes.proofs.Closing.{followed_next, expanded_by}
use Rattle.b67_outcomes.proofs.Trees.{kept_same, kept_open, state_stays}
use Rattle.b67_outcomes.proofs.search.expand.Goals as goal

pub stand-requires : goal.stand-requires
stand-requires g c =
    let code = g.W.Walker.code c.args.walker.now in
    record {
      known = c.requires.known;
      led = subst (λ (xs : List Step). IsLed code xs c.args.number) (sym c.as_slice.ensures.value) (c.requires.searched.led c.args.number c.requires.there);
      there = subst (λ (xs : List Step). IfSome c.args.at (λ n. NumberIsAt code xs n (g.W.Walker.image c.args.walker.now))) (sym c.as_slice.ensures.value) c.requires.stands;
      room = c.requires.room;
      short = let few = steps_few code c.args.most c.args.found.now c.requires.searched in omega (arith, few, c.requires.there);
    }

pub processes-init : goal.processes-init
processes-init g c = (
  c.stand.ensures.code,
  refl,
  same_grows c.args.found.now _ refl refl refl (λ e. e),
  same_searched (g.W.Walker.code c.args.walker.now) c.args.most c.args.found.now _ c.requires.searched refl refl refl c.requires.searched.cause,
  subst (λ (xs : List Step). NumberIsAt (g.W.Walker.code c.args.walker.now) xs c.args.number (g.W.Walker.image c.stand.new.walker)) c.as_slice.ensures.value
      c.in_ok-stand.ensures.at,
  λ history is p one below. absurd (omega (arith, one, below)),
  kept_same (g.W.Walker.code c.args.walker.now) (g.W.Walker.Local (g.W.Walker.code c.args.walker.now)) c.args.found.now _ c.args.number 0 refl refl c.requires.tree
      1 (omega arith),
  let able = subst (λ (o : Option ℕ). IsLastAble (g.W.Walker.image c.stand.new.walker) o) c.in-Some.is c.last_able-able.ensures in
      (able.1 c.in-Some.last able.0).0,
  c.in_ok-stand.ensures.room,
)

pub follow-requires-clause-tree : goal.follow-requires-clause-tree
follow-requires-clause-tree g c =
    let i = c.processes.invariant in
    subst (λ (k : Code). IsTree k (g.W.Walker.Local k) c.processes.found × IsReady c.processes.found c.args.number c.processes.process) (sym i.0) i.6

pub follow-requires-clause-state : goal.follow-requires-clause-state
follow-requires-clause-state g c = state_stays c.args.found.now c.processes.found c.args.number c.processes.invariant.2 c.requires.state

pub processes-preserved : goal.processes-preserved
processes-preserved g c =
    let i = c.processes.invariant in
    let code = g.W.Walker.code c.args.walker.now in
    let Local = g.W.Walker.Local code in
    let old = c.processes.found in
    let new = c.follow.new.found in (
      c.follow.ensures.code ∙ i.0,
      c.follow.ensures.second ∙ i.1,
      grown_more c.args.found.now old new i.2 c.in_ok-follow.ensures.grows,
      subst (λ (k : Code). IsSearched k c.args.most new) i.0 c.in_ok-follow.ensures.searched,
      subst (λ (k : Code). NumberIsAt k new.steps.items c.args.number (g.W.Walker.image c.follow.new.walker)) i.0 c.in_ok-follow.ensures.stands,
      λ history is.
          followed_next code Local old new c.args.number history c.processes.process c.in_ok-follow.ensures.grows (i.5 history is)
          (subst (λ (k : Code). IsFollowed k (g.W.Walker.Local k) new c.args.number history c.processes.process) i.0
          (c.in_ok-follow.ensures.followed history (grown_history c.args.found.now old c.args.number history i.2 is))),
      subst (λ (k : Code). IsTree k (g.W.Walker.Local k) new × IsReady new c.args.number (c.processes.process + 1)) i.0 c.in_ok-follow.ensures.tree,
      omega (arith, c.processes-test.true),
      c.in_ok-follow.ensures.room,
    )

pub returns-in_default-clause-grows : goal.returns-in_default-clause-grows
returns-in_default-clause-grows g c = same_grows c.args.found.now _ refl refl refl (λ e. e)

pub returns-in_default-clause-expanded : goal.returns-in_default-clause-expanded
returns-in_default-clause-expanded g c =
    let code = g.W.Walker.code c.args.walker.now in
    let here = g.W.Walker.image c.stand.new.walker in
    let there = subst (λ (xs : List Step). NumberIsAt code xs c.args.number here) c.as_slice.ensures.value c.in_ok-stand.ensures.at in
    record {
      history = there.history;
      is = there.is;
      each = λ p. followed_idle code (g.W.Walker.Local code) c.args.found.now c.args.number there.history p here there.leads (c.in_default.ensures p);
    }

pub returns-in_default-clause-tree : goal.returns-in_default-clause-tree
returns-in_default-clause-tree g c =
    let code = g.W.Walker.code c.args.walker.now in
    kept_open code (g.W.Walker.Local code) c.args.found.now _ c.args.number 0 refl refl c.requires.tree

pub find-requires-clause-tree : goal.find-requires-clause-tree
find-requires-clause-tree g c =
    let i = c.processes.invariant in
    let code = g.W.Walker.code c.args.walker.now in
    let found = c.processes.found in
    subst (λ (k : Code). IsTree k (g.W.Walker.Local k) found × IsReady found c.args.number c.in-Some.last) (sym i.0)
    (kept_same code (g.W.Walker.Local code) found found c.args.number c.processes.process refl refl i.6 c.in-Some.last i.7)

pub find-requires-clause-state : goal.find-requires-clause-state
find-requires-clause-state g c = state_stays c.args.found.now c.processes.found c.args.number c.processes.invariant.2 c.requires.state

pub returns-clause-tree : goal.returns-clause-tree
returns-clause-tree g c =
    let i = c.processes.invariant in
    let code = g.W.Walker.code c.args.walker.now in
    let new = c.find.new.found in
    let after = g.W.Walker.code c.processes.walker in
    ok_map c.find.result (λ u. IsTree after (g.W.Walker.Local after) new × IsReady new c.args.number (c.in-Some.last + 1))
    (λ u. IsTree code (g.W.Walker.Local code) new × AreOpen new c.args.number)
    (λ u x. (subst (λ (k : Code). IsTree k (g.W.Walker.Local k) new) i.0 x.0, x.1.others)) c.find.ensures.tree

pub find-requires-clause-may : goal.find-requires-clause-may
find-requires-clause-may g c =
    let i = c.processes.invariant in
    let code = g.W.Walker.code c.args.walker.now in
    let here = g.W.Walker.image c.stand.new.walker in
    let able = subst (λ (o : Option ℕ). IsLastAble here o) c.in-Some.is c.last_able-able.ensures in
    let there = subst (λ (xs : List Step). NumberIsAt code xs c.args.number here) c.as_slice.ensures.value c.in_ok-stand.ensures.at in
    let also = at_stays code c.args.found.now.steps.items i.2.more c.processes.found.steps.items c.args.number here i.2.steps there in
    subst (λ (x : Image). may_act x c.in-Some.last ≡ true)
    (at_one code c.processes.found.steps.items c.args.number here (g.W.Walker.image c.processes.walker) also i.4) able.0

pub returns-clause-expanded : goal.returns-clause-expanded
returns-clause-expanded g c =
    let i = c.processes.invariant in
    let code = g.W.Walker.code c.args.walker.now in
    let Local = g.W.Walker.Local code in
    let here = g.W.Walker.image c.stand.new.walker in
    let last = c.in-Some.last in
    let old = c.processes.found in
    let new = c.find.new.found in
    let able = subst (λ (o : Option ℕ). IsLastAble here o) c.in-Some.is c.last_able-able.ensures in
    let there = subst (λ (xs : List Step). NumberIsAt code xs c.args.number here) c.as_slice.ensures.value c.in_ok-stand.ensures.at in
    let h = there.history in
    let is = there.is in
    let after = g.W.Walker.code c.processes.walker in
    ok_both c.find.result (λ u. FoundGrows old new)
    (λ u. (history : List ℕ) → History old.steps.items c.args.number history → IsFollowed after (g.W.Walker.Local after) new c.args.number history last)
    (λ u. IsExpanded code Local new c.args.number)
    (λ u grows followed.
    expanded_by code Local new c.args.number h here last (last + 1)
    (grown_history c.args.found.now new c.args.number h (grown_more c.args.found.now old new i.2 grows) is) there.leads able.1 (omega arith)
    (followed_next code Local old new c.args.number h last grows
    (λ p least below. i.5 h is p least (omega (arith, below, c.processes-test.false)))
    (subst (λ (k : Code). IsFollowed k (g.W.Walker.Local k) new c.args.number h last) i.0
    (followed h (grown_history c.args.found.now old c.args.number h i.2 is)))))
    c.find.ensures.grows c.find.ensures.followed
