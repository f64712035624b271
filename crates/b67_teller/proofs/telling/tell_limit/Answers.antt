use Rattle.std.proofs.Common.{◌≡◌, sym, ap, subst, ◌∙◌, ℕ, ◌≤◌, true, false, List, ◌∷◌, length, reverse, arith}
use Rattle.b67_segment.specs.declared.code.Code.{Code}
use Rattle.b67_schedule.specs.Giving.{given_entries}
use Rattle.b67_schedule.specs.Schedules.{most_in_schedule}
use Rattle.b67_told.specs.declared.Outcome.{Outcome}
use Rattle.b67_told.specs.Telling.{OutcomeIsTold}
use Rattle.b67_outcomes.specs.declared.found.Step.{Step}
use Rattle.b67_outcomes.specs.Entering.{HistoryLeads, HistoryLeadsTo}
use Rattle.b67_outcomes.specs.Finding.{History}
use Rattle.b67_outcomes.proofs.Histories.{history_one, history_short, history_within, led_leads, ok_map}
use Rattle.b67_teller.specs.Following.{HasOutcome, stopped_outcome}
use Rattle.b67_teller.specs.Books.{IsLeftOut, HasCause, IsLimitTold, IsHistoryWith, HasOther}
use Rattle.b67_teller.proofs.Booking.{limit_schedule}
use Rattle.b67_teller.proofs.States.{limit_may, limit_stops, limit_has, limit_shown, limit_told, short_with, told_here, told_back}
use Rattle.b67_teller.proofs.telling.tell_limit.Goals as goal

pub words_at-requires-clause-leads : goal.words_at-requires-clause-leads
words_at-requires-clause-leads g c =
    let s = c.requires.stop in
    let is = subst (λ (xs : List Step). History xs c.args.limit.state c.in_ok-before.before.items) c.as_slice-steps.ensures.value c.in_ok-before.ensures in
    subst (λ (h : List ℕ). HistoryLeads (g.T.Walker.code c.args.teller.now) h) (sym c.as_slice-entries.ensures.value)
    (led_leads (g.T.Walker.code c.args.teller.now) c.args.found.now.steps.items c.args.limit.state c.in_ok-before.before.items
    (record { history = s.history; image = s.image; is = s.is; leads = s.leads }) is)

pub words_at-requires-clause-may : goal.words_at-requires-clause-may
words_at-requires-clause-may g c = λ img leads.
    let is = subst (λ (xs : List Step). History xs c.args.limit.state c.in_ok-before.before.items) c.as_slice-steps.ensures.value c.in_ok-before.ensures in
    limit_may (g.T.Walker.code c.args.teller.now) c.args.found.now.steps.items c.args.limit c.in_ok-before.before.items img c.requires.stop is
    (subst (λ (h : List ℕ). HistoryLeadsTo (g.T.Walker.code c.args.teller.now) h img) c.as_slice-entries.ensures.value leads)

pub returns-then-is_told-clause-told : goal.returns-then-is_told-clause-told
returns-then-is_told-clause-told g c = λ e.
    let s = c.requires.stop in
    let here = g.T.Walker.image c.words_at.new.teller in
    let is = subst (λ (xs : List Step). History xs c.args.limit.state c.in_ok-before.before.items) c.as_slice-steps.ensures.value c.in_ok-before.ensures in
    let leads = subst (λ (h : List ℕ). HistoryLeadsTo (g.T.Walker.code c.args.teller.now) h here) c.as_slice-entries.ensures.value c.in_ok-words.ensures.led in
    let same = history_one c.args.found.now.steps.items c.args.limit.state s.history c.in_ok-before.before.items s.is is in
    let has =
    c.in_ok-words.ensures.words s.image s.quiet
    (subst (λ (h : List ℕ). HistoryLeadsTo (g.T.Walker.code c.args.teller.now) h s.image) (same ∙ sym c.as_slice-entries.ensures.value) s.leads) s.stops in
    limit_told (g.T.Walker.code c.args.teller.now) c.args.found.now c.args.book.now.told.items c.args.limit s
    (subst (λ (o : Outcome). OutcomeIsTold c.args.book.now.told.items o)
    (limit_shown (g.T.Walker.code c.args.teller.now) c.args.found.now.steps.items c.args.limit c.in_ok-before.before.items here c.in_ok-words.words s is leads has)
    (told_here c.as_slice-told.ensures.value c.output-output.ensures (c.is_told.ensures.yes c.if-is_told.true)))

pub schedule_of-requires-clause-few : goal.schedule_of-requires-clause-few
schedule_of-requires-clause-few g c =
    let is = subst (λ (xs : List Step). History xs c.args.limit.state c.in_ok-before.before.items) c.as_slice-steps.ensures.value c.in_ok-before.ensures in
    subst (λ (z : List ℕ). length z ≤ most_in_schedule) (sym c.as_slice.ensures.value)
    (short_with c.args.found.now.steps.items c.args.limit c.in_ok-history.history.items
    (c.in_ok-before.before.items, is, c.in_ok-history.ensures.is ∙ ap (λ (z : List ℕ). c.args.limit.process ∷ z) c.as_slice-entries.ensures.value) c.requires.few)

pub note-requires-clause-other : goal.note-requires-clause-other
note-requires-clause-other g c =
    let s = c.requires.stop in
    let here = g.T.Walker.image c.words_at.new.teller in
    let is = subst (λ (xs : List Step). History xs c.args.limit.state c.in_ok-before.before.items) c.as_slice-steps.ensures.value c.in_ok-before.ensures in
    let leads = subst (λ (h : List ℕ). HistoryLeadsTo (g.T.Walker.code c.args.teller.now) h here) c.as_slice-entries.ensures.value c.in_ok-words.ensures.led in
    let same = history_one c.args.found.now.steps.items c.args.limit.state s.history c.in_ok-before.before.items s.is is in
    let has =
    c.in_ok-words.ensures.words s.image s.quiet
    (subst (λ (h : List ℕ). HistoryLeadsTo (g.T.Walker.code c.args.teller.now) h s.image) (same ∙ sym c.as_slice-entries.ensures.value) s.leads) s.stops in
    let with : IsHistoryWith c.args.found.now.steps.items c.args.limit c.in_ok-history.history.items =
    (c.in_ok-before.before.items, is, c.in_ok-history.ensures.is ∙ ap (λ (z : List ℕ). c.args.limit.process ∷ z) c.as_slice-entries.ensures.value) in
    subst (λ (k : Code). HasOther k (given_entries c.in_ok-given.given) c.args.book.now.told.items) (sym c.words_at.ensures.code)
    (record {
      outcome = stopped_outcome s.image c.args.limit.process s.quiet;
      has =
          limit_has (g.T.Walker.code c.args.teller.now) c.args.found.now.steps.items c.args.limit c.in_ok-history.history.items (given_entries c.in_ok-given.given) with
          (c.in_ok-given.ensures.entries ∙ ap reverse c.as_slice.ensures.value) s;
      other = λ t.
          c.is_told.ensures.no c.if-is_told.false
          (told_back c.as_slice-told.ensures.value c.output-output.ensures
          (subst (λ (o : Outcome). OutcomeIsTold c.args.book.now.told.items o)
          (sym (limit_shown (g.T.Walker.code c.args.teller.now) c.args.found.now.steps.items c.args.limit c.in_ok-before.before.items here c.in_ok-words.words s is leads has))
          t));
    })

pub words_at-requires-clause-short : goal.words_at-requires-clause-short
words_at-requires-clause-short g c =
    let is = subst (λ (xs : List Step). History xs c.args.limit.state c.in_ok-before.before.items) c.as_slice-steps.ensures.value c.in_ok-before.ensures in
    let short = history_short c.args.found.now.steps.items c.args.limit.state c.in_ok-before.before.items is in
    let within = history_within c.args.found.now.steps.items c.args.limit.state c.in_ok-before.before.items is in
    let same = ap (λ (h : List ℕ). length h) c.as_slice-entries.ensures.value in
    omega (arith, short, within, same, c.requires.few)

pub words_at-requires-clause-stops : goal.words_at-requires-clause-stops
words_at-requires-clause-stops g c = λ img leads.
    let is = subst (λ (xs : List Step). History xs c.args.limit.state c.in_ok-before.before.items) c.as_slice-steps.ensures.value c.in_ok-before.ensures in
    limit_stops (g.T.Walker.code c.args.teller.now) c.args.found.now.steps.items c.args.limit c.in_ok-before.before.items img c.requires.stop is
    (subst (λ (h : List ℕ). HistoryLeadsTo (g.T.Walker.code c.args.teller.now) h img) c.as_slice-entries.ensures.value leads)

pub returns-clause-cause : goal.returns-clause-cause
returns-clause-cause g c =
    let is = subst (λ (xs : List Step). History xs c.args.limit.state c.in_ok-before.before.items) c.as_slice-steps.ensures.value c.in_ok-before.ensures in
    let with : IsHistoryWith c.args.found.now.steps.items c.args.limit c.in_ok-history.history.items =
    (c.in_ok-before.before.items, is, c.in_ok-history.ensures.is ∙ ap (λ (z : List ℕ). c.args.limit.process ∷ z) c.as_slice-entries.ensures.value) in
    let schedule = given_entries c.in_ok-given.given in
    let of_found =
    limit_schedule c.args.found.now c.args.limit c.in_ok-history.history.items schedule c.requires.state with
    (c.in_ok-given.ensures.entries ∙ ap reverse c.as_slice.ensures.value) in
    ok_map c.note.result (λ u. c.note.new.book.cut ≡ true → IsLeftOut g.T.Teller.Explained (g.T.Walker.code c.words_at.new.teller) c.note.new.book.told.items schedule)
    (λ u. HasCause g.T.Teller.Explained (g.T.Walker.code c.args.teller.now) c.args.found.now c.note.new.book)
    (λ u x e.
    record {
      schedule = schedule;
      of_found = of_found;
      left = subst (λ (k : Code). IsLeftOut g.T.Teller.Explained k c.note.new.book.told.items schedule) c.words_at.ensures.code (x e);
    })
    c.note.ensures.cause

pub returns-clause-told : goal.returns-clause-told
returns-clause-told g c =
    let s = c.requires.stop in
    let is = subst (λ (xs : List Step). History xs c.args.limit.state c.in_ok-before.before.items) c.as_slice-steps.ensures.value c.in_ok-before.ensures in
    let o = stopped_outcome s.image c.args.limit.process s.quiet in
    let with : IsHistoryWith c.args.found.now.steps.items c.args.limit c.in_ok-history.history.items =
    (c.in_ok-before.before.items, is, c.in_ok-history.ensures.is ∙ ap (λ (z : List ℕ). c.args.limit.process ∷ z) c.as_slice-entries.ensures.value) in
    let has =
    subst (λ (k : Code). HasOutcome k (given_entries c.in_ok-given.given) o) (sym c.words_at.ensures.code)
    (limit_has (g.T.Walker.code c.args.teller.now) c.args.found.now.steps.items c.args.limit c.in_ok-history.history.items (given_entries c.in_ok-given.given) with
    (c.in_ok-given.ensures.entries ∙ ap reverse c.as_slice.ensures.value) s) in
    ok_map c.note.result
    (λ u. c.note.new.book.cut ≡ false → (x : Outcome) → HasOutcome (g.T.Walker.code c.words_at.new.teller) (given_entries c.in_ok-given.given) x
    → OutcomeIsTold c.note.new.book.told.items x)
    (λ u. c.note.new.book.cut ≡ false → IsLimitTold (g.T.Walker.code c.args.teller.now) c.args.found.now c.note.new.book.told.items c.args.limit)
    (λ u t e. limit_told (g.T.Walker.code c.args.teller.now) c.args.found.now c.note.new.book.told.items c.args.limit s (t e o has))
    c.note.ensures.told
