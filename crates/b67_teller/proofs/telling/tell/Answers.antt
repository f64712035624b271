use Rattle.std.proofs.Common.{◌≡◌, ◌<◌, refl, sym, ap, subst, ◌∙◌, length, Some, arith}
use Rattle.std.specs.Prelude.{slice_get}
use Rattle.std.proofs.lemmas.Option.{slice_get-get_or, slice_get_within}
use Rattle.b67_segment.specs.declared.code.Code.{Code}
use Rattle.b67_outcomes.specs.declared.found.State.{State}
use Rattle.b67_teller.specs.Books.{IsBook, HasCause, AreLimitsTold, IsLimitTold, IsStateTold}
use Rattle.b67_teller.proofs.Booking.{grows_more, limits_stay, states_stay, states_next}
use Rattle.b67_teller.proofs.telling.tell.Goals as goal

pub tell_limits-requires-clause-before : goal.tell_limits-requires-clause-before
tell_limits-requires-clause-before g c = λ e.
    subst (λ (k : Code). AreLimitsTold k c.args.found.now c.states.book.told.items c.states.at) (sym c.states.invariant.0) (c.states.invariant.4 e)

pub tell_state-requires-clause-there : goal.tell_state-requires-clause-there
tell_state-requires-clause-there g c =
    let s : State = c.index.result.now in
    let test = c.states-test.true in
    let room = c.args.found.now.states.ok.0 in
    let within : c.states.place < length c.args.found.now.states.items = omega (arith, test, room) in
    c.requires.states c.states.place s (slice_get-get_or c.args.found.now.states.items c.states.place s within ∙ ap Some (sym c.index.ensures))

pub states-preserved : goal.states-preserved
states-preserved g c =
    let i = c.states.invariant in
    let test = c.states-test.true in
    let room = c.args.found.now.states.ok.0 in
    let within : c.states.place < length c.args.found.now.states.items = omega (arith, test, room) in
    let s : State = c.index.result.now in
    let there : slice_get c.args.found.now.states.items c.states.place ≡ Some s =
    slice_get-get_or c.args.found.now.states.items c.states.place s within ∙ ap Some (sym c.index.ensures) in
    let same = c.tell_limits.ensures.code ∙ i.0 in
    let first = c.in_ok-tell_limits.ensures.grows in
    let second = c.in_ok-tell_state.ensures.grows in
    let both = grows_more c.states.book c.tell_limits.new.book c.tell_state.new.book first second in (
      c.tell_state.ensures.code ∙ same,
      c.limits_before-to.ensures.most,
      omega (arith, within),
      subst (λ (k : Code). IsBook g.T.Teller.Explained k c.tell_state.new.book) same c.in_ok-tell_state.ensures.book,
      λ e.
          limits_stay (g.T.Walker.code c.args.teller.now) c.args.found.now c.tell_limits.new.book c.tell_state.new.book c.limits_before-to.result second
          (subst (λ (k : Code). AreLimitsTold k c.args.found.now c.tell_limits.new.book.told.items c.limits_before-to.result) i.0
          (c.in_ok-tell_limits.ensures.told (second.cut e))),
      λ e.
          states_next (g.T.Walker.code c.args.teller.now) c.args.found.now c.tell_state.new.book.told.items c.states.place s there
          (states_stay (g.T.Walker.code c.args.teller.now) c.args.found.now c.states.book c.tell_state.new.book c.states.place both (i.5 (both.cut e)))
          (subst (λ (k : Code). IsStateTold k c.args.found.now c.tell_state.new.book.told.items s.number) same (c.in_ok-tell_state.ensures.told e)),
      subst (λ (k : Code). HasCause g.T.Teller.Explained k c.args.found.now c.tell_state.new.book) same c.in_ok-tell_state.ensures.cause,
    )

pub tell_limits-requires-clause-cause : goal.tell_limits-requires-clause-cause
tell_limits-requires-clause-cause g c =
    let i = c.states.invariant in
    subst (λ (k : Code). HasCause g.T.Teller.Explained k c.args.found.now c.states.book) (sym i.0) i.6

pub tell_state-requires-clause-state : goal.tell_state-requires-clause-state
tell_state-requires-clause-state g c =
    let s : State = c.index.result.now in
    let test = c.states-test.true in
    let room = c.args.found.now.states.ok.0 in
    let within : c.states.place < length c.args.found.now.states.items = omega (arith, test, room) in
    (c.states.place, s, slice_get-get_or c.args.found.now.states.items c.states.place s within ∙ ap Some (sym c.index.ensures), refl)

pub tell_state-requires-clause-cause : goal.tell_state-requires-clause-cause
tell_state-requires-clause-cause g c =
    subst (λ (k : Code). HasCause g.T.Teller.Explained k c.args.found.now c.tell_limits.new.book) (sym c.tell_limits.ensures.code) c.in_ok-tell_limits.ensures.cause

pub tell_limits-requires-2-clause-cause : goal.tell_limits-requires-2-clause-cause
tell_limits-requires-2-clause-cause g c =
    let i = c.states.invariant in
    subst (λ (k : Code). HasCause g.T.Teller.Explained k c.args.found.now c.states.book) (sym i.0) i.6

pub returns-clause-cause : goal.returns-clause-cause
returns-clause-cause g c =
    subst (λ (k : Code). HasCause g.T.Teller.Explained k c.args.found.now c.tell_limits-2.new.book) c.states.invariant.0 c.in_ok-tell_limits-2.ensures.cause

pub tell_limits-requires-2-clause-before : goal.tell_limits-requires-2-clause-before
tell_limits-requires-2-clause-before g c = λ e.
    subst (λ (k : Code). AreLimitsTold k c.args.found.now c.states.book.told.items c.states.at) (sym c.states.invariant.0) (c.states.invariant.4 e)

pub returns-clause-told : goal.returns-clause-told
returns-clause-told g c = λ e.
    let i = c.states.invariant in
    let past = c.states-test.false in
    let room = c.args.found.now.states.ok.0 in
    let grows = c.in_ok-tell_limits-2.ensures.grows in
    record {
      ended = λ k s there.
          let within = slice_get_within c.args.found.now.states.items k s there in
          states_stay (g.T.Walker.code c.args.teller.now) c.args.found.now c.states.book c.tell_limits-2.new.book c.states.place grows (i.5 (grows.cut e)) k s
          (omega (arith, within, past, room)) there;
      stopped = λ k l below there.
          let most = c.args.found.now.limits.ok.0 in
          subst (λ (x : Code). IsLimitTold x c.args.found.now c.tell_limits-2.new.book.told.items l) i.0
          (c.in_ok-tell_limits-2.ensures.told e k l (omega (arith, below, most)) there);
    }
