use Rattle.std.proofs.Common.{◌≡◌, sym, ap, subst, ◌∙◌, ℕ, ◌≤◌, true, false, List, length, reverse, Some, arith}
use Rattle.std.specs.Prelude.{slice_get}
use Rattle.b67_segment.specs.declared.code.Code.{Code}
use Rattle.b67_schedule.specs.Giving.{given_entries}
use Rattle.b67_schedule.specs.Schedules.{most_in_schedule}
use Rattle.b67_told.specs.declared.Outcome.{Outcome}
use Rattle.b67_told.specs.declared.Told.{Told}
use Rattle.b67_told.specs.Telling.{OutcomeIsTold}
use Rattle.b67_outcomes.specs.declared.found.Step.{Step}
use Rattle.b67_outcomes.specs.Entering.{HistoryLeads, HistoryLeadsTo}
use Rattle.b67_outcomes.specs.Finding.{History}
use Rattle.b67_outcomes.proofs.Histories.{history_short, led_leads, ok_map}
use Rattle.b67_teller.specs.Following.{HasOutcome}
use Rattle.b67_teller.specs.Books.{IsSettled, IsOpen, IsLeftOut, HasCause, HasOther, IsStateTold}
use Rattle.b67_teller.proofs.Booking.{state_schedule}
use Rattle.b67_teller.proofs.States.{open_end, state_settled, state_told, state_has, state_other, short_of, followed_told}
use Rattle.b67_teller.proofs.telling.tell_state.Goals as goal

pub returns-then-is_followed-clause-told : goal.returns-then-is_followed-clause-told
returns-then-is_followed-clause-told g c = λ e.
    let x = c.is_followed.ensures c.if-is_followed.true in
    followed_told (g.T.Walker.code c.args.teller.now) c.args.found.now c.args.book.now.told.items c.args.number x.0 x.1 c.requires.led
    (subst (λ (xs : List Step). slice_get xs x.0 ≡ Some x.1) c.as_slice-steps.ensures.value x.2) x.3

pub history_of-requires : goal.history_of-requires
history_of-requires g c =
    let led = c.requires.led c.args.number c.requires.there in
    record { found = (led.history, subst (λ (xs : List Step). History xs c.args.number led.history) (sym c.as_slice-steps.ensures.value) led.is) }

pub perform-requires : goal.perform-requires
perform-requires g c =
    let led = c.requires.led c.args.number c.requires.there in
    let is = subst (λ (xs : List Step). History xs c.args.number c.in_ok-history.history.items) c.as_slice-steps.ensures.value c.in_ok-history.ensures in
    record {
      known = c.requires.known;
      leads = subst (λ (h : List ℕ). HistoryLeads (g.T.Walker.code c.args.teller.now) h) (sym c.as_slice-entries.ensures.value)
          (led_leads (g.T.Walker.code c.args.teller.now) c.args.found.now.steps.items c.args.number c.in_ok-history.history.items led is);
      short =
          let short = history_short c.args.found.now.steps.items c.args.number c.in_ok-history.history.items is in
          let same = ap (λ (h : List ℕ). length h) c.as_slice-entries.ensures.value in
          omega (arith, short, same, c.requires.there, c.requires.few);
    }

pub returns-then-is_settled-clause-told : goal.returns-then-is_settled-clause-told
returns-then-is_settled-clause-told g c = λ e.
    let here = g.T.Walker.image c.perform.new.walker in
    let is = subst (λ (xs : List Step). History xs c.args.number c.in_ok-history.history.items) c.as_slice-steps.ensures.value c.in_ok-history.ensures in
    let leads =
    subst (λ (h : List ℕ). HistoryLeadsTo (g.T.Walker.code c.args.teller.now) h here) c.as_slice-entries.ensures.value c.in_ok-perform.ensures.led in
    state_settled (g.T.Walker.code c.args.teller.now) c.args.found.now c.args.book.now.told.items c.args.number c.in_ok-history.history.items here is leads
    c.end-end.result (sym c.end-end.ensures)
    (subst (λ (z : List Told). IsSettled z here.output c.end-end.result) c.as_slice-told.ensures.value
    (subst (λ (z : List (List ℕ)). IsSettled c.as_slice-told.result.now z c.end-end.result) c.output-output.ensures
    (c.is_settled.ensures.yes c.if-is_settled.true)))

pub schedule_of-requires-clause-few : goal.schedule_of-requires-clause-few
schedule_of-requires-clause-few g c =
    let is = subst (λ (xs : List Step). History xs c.args.number c.in_ok-history.history.items) c.as_slice-steps.ensures.value c.in_ok-history.ensures in
    subst (λ (z : List ℕ). length z ≤ most_in_schedule) (sym c.as_slice-entries.ensures.value)
    (short_of c.args.found.now.steps.items c.args.number c.in_ok-history.history.items is c.requires.few)

pub note-requires-clause-other : goal.note-requires-clause-other
note-requires-clause-other g c =
    let here = g.T.Walker.image c.perform.new.walker in
    let leads =
    subst (λ (h : List ℕ). HistoryLeadsTo (g.T.Walker.code c.args.teller.now) h here) c.as_slice-entries.ensures.value c.in_ok-perform.ensures.led in
    subst (λ (k : Code). HasOther k (given_entries c.in_ok-given.given) c.args.book.now.told.items) (sym c.perform.ensures.code)
    (state_other (g.T.Walker.code c.args.teller.now) c.args.book.now.told.items c.in_ok-history.history.items (given_entries c.in_ok-given.given) here c.end-end.result
    (c.in_ok-given.ensures.entries ∙ ap reverse c.as_slice-entries.ensures.value) leads (sym c.end-end.ensures)
    (subst (λ (z : List Told). IsOpen z here.output c.end-end.result) c.as_slice-told.ensures.value
    (subst (λ (z : List (List ℕ)). IsOpen c.as_slice-told.result.now z c.end-end.result) c.output-output.ensures
    (c.is_settled.ensures.no c.if-is_settled.false))))

pub returns-clause-cause : goal.returns-clause-cause
returns-clause-cause g c =
    let is = subst (λ (xs : List Step). History xs c.args.number c.in_ok-history.history.items) c.as_slice-steps.ensures.value c.in_ok-history.ensures in
    let schedule = given_entries c.in_ok-given.given in
    let of_found =
    state_schedule c.args.found.now c.args.number c.in_ok-history.history.items schedule c.requires.state is
    (c.in_ok-given.ensures.entries ∙ ap reverse c.as_slice-entries.ensures.value) in
    ok_map c.note.result (λ u. c.note.new.book.cut ≡ true → IsLeftOut g.T.Teller.Explained (g.T.Walker.code c.perform.new.walker) c.note.new.book.told.items schedule)
    (λ u. HasCause g.T.Teller.Explained (g.T.Walker.code c.args.teller.now) c.args.found.now c.note.new.book)
    (λ u x e.
    record {
      schedule = schedule;
      of_found = of_found;
      left = subst (λ (k : Code). IsLeftOut g.T.Teller.Explained k c.note.new.book.told.items schedule) c.perform.ensures.code (x e);
    })
    c.note.ensures.cause

pub returns-clause-told : goal.returns-clause-told
returns-clause-told g c =
    let here = g.T.Walker.image c.perform.new.walker in
    let is = subst (λ (xs : List Step). History xs c.args.number c.in_ok-history.history.items) c.as_slice-steps.ensures.value c.in_ok-history.ensures in
    let leads =
    subst (λ (h : List ℕ). HistoryLeadsTo (g.T.Walker.code c.args.teller.now) h here) c.as_slice-entries.ensures.value c.in_ok-perform.ensures.led in
    let e = open_end c.as_slice-told.result.now c.output-output.result.now c.end-end.result (c.is_settled.ensures.no c.if-is_settled.false) in
    let o : Outcome = record { output = here.output; end = e.0 } in
    let has =
    subst (λ (k : Code). HasOutcome k (given_entries c.in_ok-given.given) o) (sym c.perform.ensures.code)
    (state_has (g.T.Walker.code c.args.teller.now) c.in_ok-history.history.items (given_entries c.in_ok-given.given) here e.0
    (c.in_ok-given.ensures.entries ∙ ap reverse c.as_slice-entries.ensures.value) leads (sym c.end-end.ensures ∙ e.1)) in
    ok_map c.note.result
    (λ u. c.note.new.book.cut ≡ false → (x : Outcome) → HasOutcome (g.T.Walker.code c.perform.new.walker) (given_entries c.in_ok-given.given) x
    → OutcomeIsTold c.note.new.book.told.items x)
    (λ u. c.note.new.book.cut ≡ false → IsStateTold (g.T.Walker.code c.args.teller.now) c.args.found.now c.note.new.book.told.items c.args.number)
    (λ u t cut.
    state_told (g.T.Walker.code c.args.teller.now) c.args.found.now c.note.new.book.told.items c.args.number c.in_ok-history.history.items here is leads e.0
    (sym c.end-end.ensures ∙ e.1) (t cut o has))
    c.note.ensures.told
