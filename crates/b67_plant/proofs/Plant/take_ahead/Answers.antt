use Rattle.std.proofs.Common.{◌≡◌, sym, subst, None, arith}
use Rattle.b67_stands.specs.Running.{Running, answer_of}
use Rattle.b67_stands.specs.Placing.{holder_of}
use Rattle.b67_stands.proofs.Places.{held_able}
use Rattle.b67_plant.proofs.Plant.take_ahead.Goals as goal

pub fetch-requires-clause-able : goal.fetch-requires-clause-able
fetch-requires-clause-able g c =
    let going : answer_of g.N.Named.budget (record {
      machine = c.self.inside.machine;
      waiting = c.self.inside.ready.waiting;
      takes = c.self.inside.ready.takes;
      out = c.self.inside.out.items;
      schedule = c.self.inside.schedule;
      spent = c.self.inside.spent;
      acts = c.self.inside.acts.total;
      leaves = c.self.inside.leaves.total;
    }) ≡ None = subst (λ (s : Running). answer_of g.N.Named.budget s ≡ None) (sym c.self.view_is) c.pick.ensures.going in
    let out : holder_of c.self.inside.out.items c.in-Some-pick.process ≡ c.args.me =
    subst (λ (s : Running). holder_of s.out c.in-Some-pick.process ≡ c.args.me) (sym c.self.view_is) c.in-Some-pick.ensures.out in
    held_able c.self.inside.machine.image c.self.inside.ready.waiting c.self.inside.out.items c.in-Some-pick.process (c.self.invariant.0.placed going)
    (omega (arith, out, c.requires.me))
