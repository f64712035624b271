use Rattle.std.proofs.Common.{◌≢◌, None, sym, subst}
use Rattle.b67_stands.specs.Running.{Running, answer_of}
use Rattle.b67_plant.proofs.Sharing.{left_on}
use Rattle.b67_plant.proofs.floor.Floor.leave.Goals as goal

pub invariant_of-self : goal.invariant_of-self
invariant_of-self g c =
    let i = c.self.invariant in (
      left_on g.N.Named.code g.N.Named.budget g.N.Named.pick g.N.Named.processors c.self.inside.tally.numbers c.self.inside.plant c.leave.new.self i.0
          c.leave.result (subst (λ (s : Running). answer_of g.N.Named.budget s ≢ None) (sym c.self.view_is) c.requires) c.leave.ensures.leaves,
      i.1,
    )
