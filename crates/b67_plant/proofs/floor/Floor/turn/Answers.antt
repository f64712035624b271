use Rattle.std.proofs.Common.{◌≡◌, ℕ, ◌+◌, ◌≤◌, List, None, sym, ap, subst, ◌∙◌}
use Rattle.std.proofs.lemmas.Bool.{leb-true}
use Rattle.b67_action.specs.Able.{one_if}
use Rattle.b67_tally.specs.declared.Mark.{Mark}
use Rattle.b67_tally.specs.declared.Tally.{Tally}
use Rattle.b67_stands.specs.Calls.{done_is_action}
use Rattle.b67_stands.specs.Running.{Running, answer_of}
use Rattle.b67_stands.specs.Shared.{Shared, IsFree, with_acts}
use Rattle.b67_plant.specs.Calls.{acts_in}
use Rattle.b67_plant.proofs.Made.{raised, action_counts, counted_action}
use Rattle.b67_plant.proofs.Bursts.{turn_on, turn_frees}
use Rattle.b67_plant.proofs.floor.Floor.turn.Goals as goal

pub invariant_of-self-2 : goal.invariant_of-self-2
invariant_of-self-2 g c =
    let i = c.self.invariant in
    let numbers : List ℕ = c.self.inside.tally.numbers in
    let mark : Mark = c.enter_many-acted.new.seat.mark in
    let acts = c.enter_many-acted.ensures.acts in
    let free : IsFree c.args.me c.self.inside.plant = subst (λ (s : Running). IsFree c.args.me s) (sym c.self.view_is) c.requires.free in
    let going : answer_of g.N.Named.budget c.self.inside.plant ≡ None = sym (ap (answer_of g.N.Named.budget) c.in-Some.ensures.picked.new_is) ∙ c.pick.ensures.going in
    let whose : mark.place + 1 ≡ c.args.me = ap (λ (m : Mark). m.place + 1) c.enter_many-acted.ensures.mark ∙ c.requires.whose in
    let last : c.acts_in-last.result ≡ one_if (done_is_action acts.0.done) = c.acts_in-last.ensures ∙ ap acts_in acts.2 ∙ action_counts acts.0.done in
    let is : c.add.new.self.numbers ≡ with_acts numbers c.args.me (c.enter_many-acted.result.1 + one_if (done_is_action acts.0.done)) =
    ap (λ (t : Tally). t.numbers) c.add.ensures.tally
    ∙ raised numbers mark.place mark.number c.args.me (c.from.result + c.acts_in-last.result) whose c.add.ensures.found
    ∙ ap (λ (k : ℕ). with_acts numbers c.args.me (k + c.acts_in-last.result)) c.from.ensures
    ∙ ap (λ (k : ℕ). with_acts numbers c.args.me (c.enter_many-acted.result.1 + k)) last in (
      subst (λ (xs : List ℕ). Shared g.N.Named.code g.N.Named.budget g.N.Named.pick g.N.Named.processors xs c.enter_many-acted.new.self) (sym is)
          (turn_on g.N.Named.code g.N.Named.budget g.N.Named.pick g.N.Named.processors numbers c.self.inside.plant c.pick.new.self c.enter_many-acted.new.self
          c.answer.ensures.sound c.answer.ensures.stands i.0 c.args.me c.in-Some.process c.requires.me.0 c.requires.me.1 going free c.in-Some.ensures.picked
          c.in-Some.ensures.out c.enter_many-acted.result.1 acts.0 acts.1),
      ap (λ (t : Tally). t.name) c.add.ensures.tally ∙ i.1,
    )

pub returns-clause-free : goal.returns-clause-free
returns-clause-free g c =
    let i = c.self.invariant in
    let acts = c.enter_many-acted.ensures.acts in
    let free : IsFree c.args.me c.self.inside.plant = subst (λ (s : Running). IsFree c.args.me s) (sym c.self.view_is) c.requires.free in
    let going : answer_of g.N.Named.budget c.self.inside.plant ≡ None = sym (ap (answer_of g.N.Named.budget) c.in-Some.ensures.picked.new_is) ∙ c.pick.ensures.going in
    λ some. turn_frees g.N.Named.code g.N.Named.budget g.N.Named.pick g.N.Named.processors c.self.inside.tally.numbers c.self.inside.plant c.pick.new.self c.enter_many-acted.new.self
    c.answer.ensures.sound c.answer.ensures.stands i.0 c.args.me c.in-Some.process c.requires.me.0 c.requires.me.1 going free c.in-Some.ensures.picked
    c.in-Some.ensures.out c.enter_many-acted.result.1 acts.0 acts.1
    (counted_action acts.0.done c.enter_many-acted.result.0 acts.2 (subst (λ (n : ℕ). 1 ≤ n) c.acts_in-last.ensures (leb-true 1 c.acts_in-last.result some)))
