use Rattle.std.proofs.Common.{sym, subst}
use Rattle.b67_stands.specs.Running.{Running}
use Rattle.b67_stands.specs.Shared.{IsFree}
use Rattle.b67_plant.proofs.Sharing.{taken_on}
use Rattle.b67_plant.proofs.floor.Floor.take_new.Goals as goal

pub invariant_of-self : goal.invariant_of-self
invariant_of-self g c =
    let i = c.self.invariant in (
      taken_on g.N.Named.code g.N.Named.budget g.N.Named.pick g.N.Named.processors c.self.inside.tally.numbers c.self.inside.plant c.take_ahead.new.self i.0
          c.args.me c.take_ahead.result c.take_ahead.new.ahead.process c.requires.me.0 c.requires.me.1 (subst (λ (s : Running). IsFree c.args.me s) (sym c.self.view_is) c.requires.free) c.take_ahead.ensures.taken,
      i.1,
    )
