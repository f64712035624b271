use Rattle.std.proofs.Common.{refl, sym, subst, ◌+◌, List, arith}
use Rattle.b67_segment.specs.declared.code.Code.{Code}
use Rattle.b67_outcomes.specs.declared.found.Step.{Step}
use Rattle.b67_outcomes.specs.Finding.{NumberIsAt, IsLed}
use Rattle.b67_outcomes.proofs.Histories.{at_led, at_stays, at_history, ok_map}
use Rattle.b67_outcomes.proofs.Keeping.{number_few, grown_none, followed_idle}
use Rattle.b67_outcomes.proofs.Trees.{kept_same}
use Rattle.b67_outcomes.proofs.follow.follow.Goals as goal

pub returns-then-not-may_act-clause-grows : goal.returns-then-not-may_act-clause-grows
returns-then-not-may_act-clause-grows g c = grown_none c.args.found.now

pub returns-then-not-may_act-clause-followed : goal.returns-then-not-may_act-clause-followed
returns-then-not-may_act-clause-followed g c = λ history is.
    let code = g.W.Walker.code c.args.walker.now in
    let here = g.W.Walker.image c.args.walker.now in
    followed_idle code (g.W.Walker.Local code) c.args.found.now c.args.number history c.args.process here
    (at_history code c.args.found.now.steps.items c.args.number here history c.requires.stands is) (sym c.if-not-may_act.ensures)

pub returns-then-not-may_act-clause-tree : goal.returns-then-not-may_act-clause-tree
returns-then-not-may_act-clause-tree g c =
    let code = g.W.Walker.code c.args.walker.now in
    kept_same code (g.W.Walker.Local code) c.args.found.now _ c.args.number c.args.process refl refl c.requires.tree (c.args.process + 1) (omega arith)

pub walk-requires : goal.walk-requires
walk-requires g c =
    let code = g.W.Walker.code c.args.walker.now in
    let here = g.W.Walker.image c.args.walker.now in
    let grows = c.in_ok-find.ensures.grows in
    record {
      known = subst (λ (k : Code). g.W.Walker.Known k) (sym c.find.ensures.code) c.requires.known;
      led = subst (λ (k : Code). IsLed k c.as_slice.result.now c.args.number) (sym c.find.ensures.code)
          (subst (λ (xs : List Step). IsLed code xs c.args.number) (sym c.as_slice.ensures.value)
          (at_led code c.find.new.found.steps.items c.args.number here
          (at_stays code c.args.found.now.steps.items grows.more c.find.new.found.steps.items c.args.number here grows.steps c.requires.stands)));
      short = let few = number_few code c.args.most c.args.number c.args.found.now c.requires.stands.history c.requires.searched c.requires.stands.is in omega (arith, few);
    }

pub returns-clause-stands : goal.returns-clause-stands
returns-clause-stands g c =
    let code = g.W.Walker.code c.args.walker.now in
    let there = g.W.Walker.image c.walk.new.walker in
    ok_map c.walk.result (λ u. NumberIsAt (g.W.Walker.code c.find.new.walker) c.as_slice.result.now c.args.number there)
    (λ u. NumberIsAt code c.find.new.found.steps.items c.args.number there)
    (λ u x.
    subst (λ (xs : List Step). NumberIsAt code xs c.args.number there) c.as_slice.ensures.value
    (subst (λ (k : Code). NumberIsAt k c.as_slice.result.now c.args.number there) c.find.ensures.code x))
    c.walk.ensures.at
