use Rattle.std.proofs.Common.{◌≡◌, ℕ, ◌+◌, ◌-◌, List, sym, ap, subst, ◌∙◌, arith}
use Rattle.b67_tally.specs.declared.Mark.{Mark}
use Rattle.b67_tally.specs.declared.Tally.{Tally}
use Rattle.b67_stands.specs.Shared.{Shared, with_acts}
use Rattle.b67_plant.proofs.Made.{raised}
use Rattle.b67_plant.proofs.Sharing.{landed_on}
use Rattle.b67_plant.proofs.floor.Floor.land.Goals as goal

pub invariant_of-self : goal.invariant_of-self
invariant_of-self g c =
    let i = c.self.invariant in
    let numbers : List ℕ = c.self.inside.tally.numbers in
    let mark : Mark = c.land_or_stay-landing.new.seat.mark in
    let made : ℕ = c.land_or_stay-landing.new.seat.count - c.args.seat.now.count in
    let whose : mark.place + 1 ≡ c.args.me = ap (λ (m : Mark). m.place + 1) c.land_or_stay-landing.ensures.mark ∙ c.requires.whose in
    let is : c.add.new.self.numbers ≡ with_acts numbers c.args.me made =
    ap (λ (t : Tally). t.numbers) c.add.ensures.tally ∙ raised numbers mark.place mark.number c.args.me made whose c.add.ensures.found in (
      subst (λ (acts : List ℕ). Shared g.N.Named.code g.N.Named.budget g.N.Named.pick g.N.Named.processors acts c.land_or_stay-landing.new.self) (sym is)
          (landed_on g.N.Named.code g.N.Named.budget g.N.Named.pick g.N.Named.processors numbers c.self.inside.plant c.land_or_stay-landing.new.self i.0
          c.args.me c.args.parcel.now c.land_or_stay-landing.result made c.requires.me.0 c.requires.me.1 c.land_or_stay-landing.ensures.lands (omega (arith, c.land_or_stay-landing.ensures.count.0, c.land_or_stay-landing.ensures.count.1))),
      ap (λ (t : Tally). t.name) c.add.ensures.tally ∙ i.1,
    )
