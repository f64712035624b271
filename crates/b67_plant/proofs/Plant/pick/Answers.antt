use Rattle.std.specs.Prelude.{slice_set}
use Rattle.std.proofs.Common.{◌≡◌, ◌-◌, refl, sym, subst, None, arith}
use Rattle.b67_stands.specs.Running.{Running, answer_of}
use Rattle.b67_stands.specs.Calls.{TakesOne}
use Rattle.b67_plant.proofs.Handing.{number, room_is, still_chosen, takes_one, is_out, still_stands}
use Rattle.b67_plant.proofs.Plant.pick.Goals as goal

pub overflow_sub-process : goal.overflow_sub-process
overflow_sub-process g c =
    let old : Running = record {
      machine = c.self.inside.machine;
      waiting = c.self.inside.ready.waiting;
      takes = c.self.inside.ready.takes;
      out = c.self.inside.out.items;
      schedule = c.self.inside.schedule;
      spent = c.self.inside.spent;
      acts = c.self.inside.acts.total;
      leaves = c.self.inside.leaves.total;
    } in
    let i = c.self.invariant in
    let going : answer_of g.N.Named.budget old ≡ None =
    subst (λ (s : Running). answer_of g.N.Named.budget s ≡ None) (sym c.self.view_is) c.requires.going in
    (number g.P.Rule.pick g.N.Named.pick g.N.Named.code g.N.Named.budget old c.self.inside.ready c.take.new.self c.in_ok-process.process c.args.me i.0 going
    c.requires.me refl refl i.4 c.take.result c.in_ok-process.was c.take.ensures).0

pub index_mut-requires : goal.index_mut-requires
index_mut-requires g c =
    let old : Running = record {
      machine = c.self.inside.machine;
      waiting = c.self.inside.ready.waiting;
      takes = c.self.inside.ready.takes;
      out = c.self.inside.out.items;
      schedule = c.self.inside.schedule;
      spent = c.self.inside.spent;
      acts = c.self.inside.acts.total;
      leaves = c.self.inside.leaves.total;
    } in
    let i = c.self.invariant in
    let going : answer_of g.N.Named.budget old ≡ None =
    subst (λ (s : Running). answer_of g.N.Named.budget s ≡ None) (sym c.self.view_is) c.requires.going in
    let n = number g.P.Rule.pick g.N.Named.pick g.N.Named.code g.N.Named.budget old c.self.inside.ready c.take.new.self c.in_ok-process.process c.args.me i.0 going
    c.requires.me refl refl i.4 c.take.result c.in_ok-process.was c.take.ensures in
    omega (arith, n.0, n.1, i.0.holders)

pub invariant_of-self-2 : goal.invariant_of-self-2
invariant_of-self-2 g c =
    let old : Running = record {
      machine = c.self.inside.machine;
      waiting = c.self.inside.ready.waiting;
      takes = c.self.inside.ready.takes;
      out = c.self.inside.out.items;
      schedule = c.self.inside.schedule;
      spent = c.self.inside.spent;
      acts = c.self.inside.acts.total;
      leaves = c.self.inside.leaves.total;
    } in
    let i = c.self.invariant in
    let going : answer_of g.N.Named.budget old ≡ None =
    subst (λ (s : Running). answer_of g.N.Named.budget s ≡ None) (sym c.self.view_is) c.requires.going in
    let out = slice_set c.self.inside.out.items (c.in_ok-process.process - 1) c.args.me in (
      still_stands g.P.Rule.pick g.N.Named.pick g.N.Named.code g.N.Named.budget old c.self.inside.ready c.take.new.self c.in_ok-process.process c.args.me i.0 going
          c.requires.me refl refl i.4 c.take.result c.in_ok-process.was c.take.ensures
          c.take.new.self.waiting c.take.new.self.takes out refl refl refl,
      i.1,
      i.2,
      i.3,
      still_chosen g.P.Rule.pick g.N.Named.pick g.N.Named.code g.N.Named.budget old c.self.inside.ready c.take.new.self c.in_ok-process.process c.args.me i.0 going
          c.requires.me refl refl i.4 c.take.result c.in_ok-process.was c.take.ensures,
      omega (
        arith,
        i.5,
        room_is g.P.Rule.pick g.N.Named.pick g.N.Named.code g.N.Named.budget old c.self.inside.ready c.take.new.self c.in_ok-process.process c.args.me i.0 going
            c.requires.me refl refl i.4 c.take.result c.in_ok-process.was c.take.ensures,
      ),
      i.6,
      i.7,
      i.8,
      i.9,
      i.10,
    )

pub returns-clause-picked : goal.returns-clause-picked
returns-clause-picked g c =
    let old : Running = record {
      machine = c.self.inside.machine;
      waiting = c.self.inside.ready.waiting;
      takes = c.self.inside.ready.takes;
      out = c.self.inside.out.items;
      schedule = c.self.inside.schedule;
      spent = c.self.inside.spent;
      acts = c.self.inside.acts.total;
      leaves = c.self.inside.leaves.total;
    } in
    let i = c.self.invariant in
    let going : answer_of g.N.Named.budget old ≡ None =
    subst (λ (s : Running). answer_of g.N.Named.budget s ≡ None) (sym c.self.view_is) c.requires.going in
    let out = slice_set c.self.inside.out.items (c.in_ok-process.process - 1) c.args.me in
    let new : Running = record old { waiting = c.take.new.self.waiting; takes = c.take.new.self.takes; out = out } in
    subst (λ (s : Running). TakesOne g.N.Named.pick c.args.me s c.in_ok-process.process new) c.self.view_is
    (takes_one g.P.Rule.pick g.N.Named.pick g.N.Named.code g.N.Named.budget old c.self.inside.ready c.take.new.self c.in_ok-process.process c.args.me i.0 going
    c.requires.me refl refl i.4 c.take.result c.in_ok-process.was c.take.ensures c.take.new.self.waiting c.take.new.self.takes out refl refl refl)

pub returns-clause-out : goal.returns-clause-out
returns-clause-out g c =
    let old : Running = record {
      machine = c.self.inside.machine;
      waiting = c.self.inside.ready.waiting;
      takes = c.self.inside.ready.takes;
      out = c.self.inside.out.items;
      schedule = c.self.inside.schedule;
      spent = c.self.inside.spent;
      acts = c.self.inside.acts.total;
      leaves = c.self.inside.leaves.total;
    } in
    let i = c.self.invariant in
    let going : answer_of g.N.Named.budget old ≡ None =
    subst (λ (s : Running). answer_of g.N.Named.budget s ≡ None) (sym c.self.view_is) c.requires.going in
    is_out g.P.Rule.pick g.N.Named.pick g.N.Named.code g.N.Named.budget old c.self.inside.ready c.take.new.self c.in_ok-process.process c.args.me i.0 going
    c.requires.me refl refl i.4 c.take.result c.in_ok-process.was c.take.ensures
    (slice_set c.self.inside.out.items (c.in_ok-process.process - 1) c.args.me) refl

pub returns-clause-stands : goal.returns-clause-stands
returns-clause-stands g c =
    let old : Running = record {
      machine = c.self.inside.machine;
      waiting = c.self.inside.ready.waiting;
      takes = c.self.inside.ready.takes;
      out = c.self.inside.out.items;
      schedule = c.self.inside.schedule;
      spent = c.self.inside.spent;
      acts = c.self.inside.acts.total;
      leaves = c.self.inside.leaves.total;
    } in
    let i = c.self.invariant in
    let going : answer_of g.N.Named.budget old ≡ None =
    subst (λ (s : Running). answer_of g.N.Named.budget s ≡ None) (sym c.self.view_is) c.requires.going in
    still_stands g.P.Rule.pick g.N.Named.pick g.N.Named.code g.N.Named.budget old c.self.inside.ready c.take.new.self c.in_ok-process.process c.args.me i.0 going
    c.requires.me refl refl i.4 c.take.result c.in_ok-process.was c.take.ensures c.take.new.self.waiting c.take.new.self.takes
    (slice_set c.self.inside.out.items (c.in_ok-process.process - 1) c.args.me) refl refl refl
