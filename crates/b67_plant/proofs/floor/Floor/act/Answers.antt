use Rattle.std.proofs.Common.{◌≡◌, ℕ, ◌+◌, List, sym, ap, subst, ◌∙◌}
use Rattle.b67_tally.specs.declared.Mark.{Mark}
use Rattle.b67_tally.specs.declared.Tally.{Tally}
use Rattle.b67_stands.specs.Shared.{Shared, with_acts}
use Rattle.b67_plant.specs.Calls.{acts_in}
use Rattle.b67_plant.proofs.Made.{raised}
use Rattle.b67_plant.proofs.Bursts.{acted_then, acted_frees}
use Rattle.b67_plant.proofs.floor.Floor.act.Goals as goal

pub invariant_of-self : goal.invariant_of-self
invariant_of-self g c =
    let i = c.self.invariant in
    let n : ℕ = g.N.Named.processors in
    let numbers : List ℕ = c.self.inside.tally.numbers in
    let mark : Mark = c.act_many-acted.new.seat.mark in
    let whose : mark.place + 1 ≡ c.args.me = ap (λ (m : Mark). m.place + 1) c.act_many-acted.ensures.mark ∙ c.requires.whose in
    let is : c.add.new.self.numbers ≡ with_acts numbers c.args.me (c.act_many-acted.result.1 + acts_in c.act_many-acted.result.0) =
    ap (λ (t : Tally). t.numbers) c.add.ensures.tally
    ∙ raised numbers mark.place mark.number c.args.me (c.from.result + c.acts_in.result) whose c.add.ensures.found
    ∙ ap (λ (k : ℕ). with_acts numbers c.args.me (k + c.acts_in.result)) c.from.ensures
    ∙ ap (λ (k : ℕ). with_acts numbers c.args.me (c.act_many-acted.result.1 + k)) c.acts_in.ensures in (
      subst (λ (acts : List ℕ). Shared g.N.Named.code g.N.Named.budget g.N.Named.pick n acts c.act_many-acted.new.self) (sym is)
          (acted_then g.N.Named.code g.N.Named.budget g.N.Named.pick n numbers c.self.inside.plant c.act_many-acted.new.self c.act_many-acted.ensures.sound c.act_many-acted.ensures.stands i.0
          c.args.me c.args.process c.act_many-acted.result.0 c.act_many-acted.result.1 c.requires.me.0 c.requires.me.1 c.act_many-acted.ensures.acts),
      ap (λ (t : Tally). t.name) c.add.ensures.tally ∙ i.1,
    )

pub returns-clause-free : goal.returns-clause-free
returns-clause-free g c =
    λ some. acted_frees g.N.Named.code g.N.Named.budget g.N.Named.pick g.N.Named.processors c.self.inside.tally.numbers c.self.inside.plant c.act_many-acted.new.self
    c.act_many-acted.ensures.sound c.act_many-acted.ensures.stands c.self.invariant.0 c.args.me c.args.process c.act_many-acted.result.0 c.act_many-acted.result.1 c.requires.me.0
    c.requires.me.1 c.act_many-acted.ensures.acts some
