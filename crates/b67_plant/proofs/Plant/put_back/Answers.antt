use Rattle.std.specs.Prelude.{slice_set}
use Rattle.std.proofs.Common.{◌≡◌, ◌-◌, ◌≤◌, refl, sym, ap, subst, ◌∙◌, None, arith}
use Rattle.b67_stands.specs.Running.{Running, answer_of}
use Rattle.b67_stands.specs.Placing.{holder_of}
use Rattle.b67_stands.specs.Calls.{GoesBack}
use Rattle.b67_plant.proofs.Landing.{few_wait, most_is, goes_back, still_stands}
use Rattle.b67_plant.proofs.Plant.put_back.Goals as goal

pub put-requires-clause-room : goal.put-requires-clause-room
put-requires-clause-room g c =
    let old : Running = record {
      machine = c.self.inside.machine;
      waiting = c.self.inside.ready.waiting;
      takes = c.self.inside.ready.takes;
      out = c.self.inside.out.items;
      schedule = c.self.inside.schedule;
      spent = c.self.inside.spent;
      acts = c.self.inside.acts.total;
      leaves = c.self.inside.leaves.total;
    } in
    let i = c.self.invariant in
    let going : answer_of g.N.Named.budget old ≡ None = subst (λ (s : Running). answer_of g.N.Named.budget s ≡ None) (sym c.self.view_is) c.requires.going in
    let held : 1 ≤ holder_of c.self.inside.out.items c.args.process = subst (λ (s : Running). 1 ≤ holder_of s.out c.args.process) (sym c.self.view_is) c.requires.out in
    omega (arith, few_wait g.N.Named.code g.N.Named.budget old c.args.process i.0 going held, i.5)

pub put-requires-clause-few : goal.put-requires-clause-few
put-requires-clause-few g c =
    let old : Running = record {
      machine = c.self.inside.machine;
      waiting = c.self.inside.ready.waiting;
      takes = c.self.inside.ready.takes;
      out = c.self.inside.out.items;
      schedule = c.self.inside.schedule;
      spent = c.self.inside.spent;
      acts = c.self.inside.acts.total;
      leaves = c.self.inside.leaves.total;
    } in
    let i = c.self.invariant in
    let going : answer_of g.N.Named.budget old ≡ None = subst (λ (s : Running). answer_of g.N.Named.budget s ≡ None) (sym c.self.view_is) c.requires.going in
    let held : 1 ≤ holder_of c.self.inside.out.items c.args.process = subst (λ (s : Running). 1 ≤ holder_of s.out c.args.process) (sym c.self.view_is) c.requires.out in
    omega (arith, few_wait g.N.Named.code g.N.Named.budget old c.args.process i.0 going held, most_is)

pub invariant_of-self : goal.invariant_of-self
invariant_of-self g c =
    let old : Running = record {
      machine = c.self.inside.machine;
      waiting = c.self.inside.ready.waiting;
      takes = c.self.inside.ready.takes;
      out = c.self.inside.out.items;
      schedule = c.self.inside.schedule;
      spent = c.self.inside.spent;
      acts = c.self.inside.acts.total;
      leaves = c.self.inside.leaves.total;
    } in
    let i = c.self.invariant in
    let going : answer_of g.N.Named.budget old ≡ None = subst (λ (s : Running). answer_of g.N.Named.budget s ≡ None) (sym c.self.view_is) c.requires.going in
    let held : 1 ≤ holder_of c.self.inside.out.items c.args.process = subst (λ (s : Running). 1 ≤ holder_of s.out c.args.process) (sym c.self.view_is) c.requires.out in
    let out = slice_set c.self.inside.out.items (c.args.process - 1) 0 in (
      still_stands g.N.Named.code g.N.Named.budget old c.args.process i.0 going held c.self.inside.ready c.put.new.self refl refl c.put.ensures out refl,
      i.1,
      i.2,
      i.3,
      λ n takes. ap (λ r. g.P.Rule.pick r n takes) c.put.ensures.rule ∙ i.4 n takes,
      omega (arith, i.5, c.put.ensures.room),
      i.6,
      i.7,
      i.8,
      i.9,
      i.10,
    )

pub returns : goal.returns
returns g c =
    let old : Running = record {
      machine = c.self.inside.machine;
      waiting = c.self.inside.ready.waiting;
      takes = c.self.inside.ready.takes;
      out = c.self.inside.out.items;
      schedule = c.self.inside.schedule;
      spent = c.self.inside.spent;
      acts = c.self.inside.acts.total;
      leaves = c.self.inside.leaves.total;
    } in
    let i = c.self.invariant in
    let going : answer_of g.N.Named.budget old ≡ None = subst (λ (s : Running). answer_of g.N.Named.budget s ≡ None) (sym c.self.view_is) c.requires.going in
    let held : 1 ≤ holder_of c.self.inside.out.items c.args.process = subst (λ (s : Running). 1 ≤ holder_of s.out c.args.process) (sym c.self.view_is) c.requires.out in
    let out = slice_set c.self.inside.out.items (c.args.process - 1) 0 in
    let new : Running = record old { waiting = c.put.new.self.waiting; takes = c.put.new.self.takes; out = out } in
    subst (λ (s : Running). GoesBack s c.args.process new) c.self.view_is
    (goes_back g.N.Named.code g.N.Named.budget old c.args.process i.0 going held c.self.inside.ready c.put.new.self refl refl c.put.ensures out refl)
