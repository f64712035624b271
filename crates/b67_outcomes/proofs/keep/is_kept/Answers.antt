use Rattle.std.proofs.Common.{sym, subst, ◌∙◌, ◌-◌, get_or, arith}
use Rattle.std.proofs.lemmas.Option.{slice_get-get_or}
use Rattle.b67_segment.specs.declared.code.Code.{Code}
use Rattle.b67_outcomes.specs.declared.found.State.{State}
use Rattle.b67_outcomes.specs.Finding.{IsLed}
use Rattle.b67_outcomes.proofs.keep.is_kept.Goals as goal

pub walk-requires : goal.walk-requires
walk-requires g c =
    let none : State = record { number = 0; older = 0; hash = 0 } in
    let s : State = get_or c.args.states.now (c.older.at - 1) none in
    let there = slice_get-get_or c.args.states.now (c.older.at - 1) none (omega (arith, c.older-test.true, c.if-at-states.true)) in
    record {
      known = subst (λ (k : Code). g.W.Walker.Known k) (sym (c.older.invariant ∙ c.requires.codes)) c.requires.known;
      led = subst (λ (k : Code). IsLed k c.args.steps.now s.number) (sym (c.older.invariant ∙ c.requires.codes))
          (c.requires.led s.number (c.requires.states (c.older.at - 1) s there));
      short = let within = c.requires.states (c.older.at - 1) s there in omega (arith, within, c.requires.short);
    }
