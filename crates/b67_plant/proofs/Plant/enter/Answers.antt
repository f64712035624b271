use Rattle.std.proofs.Common.{◌≡◌, ◌+◌, ℕ, subst, arith}
use Rattle.b67_processors.specs.Acts.{IsActed}
use Rattle.b67_plant.proofs.Many.{only_last}
use Rattle.b67_plant.proofs.Plant.enter.Goals as goal

pub returns-clause-acts : goal.returns-clause-acts
returns-clause-acts g c =
    let a = c.enter_many.ensures.acts in (
      a.0,
      only_last g.N.Named.pick g.N.Named.budget c.args.process c.enter_many.result.1 c.args.self.now a.0 c.enter_many.new.self
          (omega (arith, c.enter_many.ensures.one (omega arith))) a.1,
      a.2,
    )

pub returns-clause-count : goal.returns-clause-count
returns-clause-count g c =
    let same : c.args.seat.now.count + c.enter_many.result.1 ≡ c.args.seat.now.count = omega (arith, c.enter_many.ensures.one (omega arith)) in
    subst (λ (n : ℕ). IsActed c.enter_many.result.0 n c.enter_many.new.seat.count) same c.enter_many.ensures.count
