use Rattle.std.proofs.Common.{ℕ, ◌≢◌, sym, subst, None, arith}
use Rattle.b67_stands.specs.Running.{Running, answer_of}
use Rattle.b67_stands.specs.Stands.{Stands}
use Rattle.b67_stands.proofs.Taking.{stands_left}
use Rattle.b67_plant.proofs.Plant.leave.Goals as goal

pub invariant_of-self : goal.invariant_of-self
invariant_of-self g c =
    let old : Running = record {
      machine = c.self.inside.machine;
      waiting = c.self.inside.ready.waiting;
      takes = c.self.inside.ready.takes;
      out = c.self.inside.out.items;
      schedule = c.self.inside.schedule;
      spent = c.self.inside.spent;
      acts = c.self.inside.acts.total;
      leaves = c.self.inside.leaves.total;
    } in
    let i = c.self.invariant in (
      subst (λ (n : ℕ). Stands g.N.Named.code g.N.Named.budget (record old { leaves = n })) (sym c.audit.ensures.total) i.0,
      i.1,
      i.2,
      i.3,
      i.4,
      i.5,
      i.6,
      i.7,
      i.8,
      omega (arith, c.audit.ensures.total, i.9),
      i.10,
    )

pub invariant_of-self-2 : goal.invariant_of-self-2
invariant_of-self-2 g c =
    let old : Running = record {
      machine = c.self.inside.machine;
      waiting = c.self.inside.ready.waiting;
      takes = c.self.inside.ready.takes;
      out = c.self.inside.out.items;
      schedule = c.self.inside.schedule;
      spent = c.self.inside.spent;
      acts = c.self.inside.acts.total;
      leaves = c.self.inside.leaves.total;
    } in
    let i = c.self.invariant in (
      stands_left g.N.Named.code g.N.Named.budget old i.0 c.add.new.self.total (subst (λ (s : Running). answer_of g.N.Named.budget s ≢ None) (sym c.self.view_is) c.requires),
      i.1,
      i.2,
      i.3,
      i.4,
      i.5,
      i.6,
      i.7,
      i.8,
      omega (arith, c.add.ensures.total, c.audit.ensures.total, i.9),
      i.10,
    )
