use Rattle.std.proofs.Common.{refl, sym, subst, ◌∙◌, Bool, true≢false}
use Rattle.b67_schedule.specs.Giving.{given_entries}
use Rattle.b67_told.specs.declared.Outcome.{Outcome}
use Rattle.b67_told.specs.declared.Told.{Told}
use Rattle.b67_told.specs.Telling.{OutcomeIsTold}
use Rattle.b67_teller.specs.Following.{IsOutcomeEnd}
use Rattle.b67_teller.specs.Books.{IsAdded}
use Rattle.b67_teller.proofs.Booking.{same_grows, added_grows, book_same, full_out, long_out, book_added, now_told}
use Rattle.b67_teller.proofs.Replays.{own_outcome, long_run, same_one}
use Rattle.b67_teller.proofs.book.note.Goals as goal

pub returns-in-BudgetSpent : goal.returns-in-BudgetSpent
returns-in-BudgetSpent g c =
    let x = c.in_ok-outcome.outcome in
    let h = c.requires.other in
    let long = long_run (g.T.Walker.code c.args.teller.now) (given_entries c.args.given) x h.outcome h.has c.in_ok-outcome.ensures.followed c.in-BudgetSpent.is in
    record {
      code = c.replay.ensures.code;
      grows = same_grows c.args.book.now _ refl (λ e. absurd (true≢false e));
      book = book_same g.T.Teller.Explained (g.T.Walker.code c.args.teller.now) c.args.book.now _ c.requires.book refl refl;
      cause = λ e. long_out g.T.Teller.Explained (g.T.Walker.code c.args.teller.now) c.args.book.now.told.items (given_entries c.args.given) h long;
      told = λ e. absurd (true≢false e);
    }

pub returns-then-not-added : goal.returns-then-not-added
returns-then-not-added g c =
    let x = c.in_ok-outcome.outcome in
    let item : Told = record { outcome = x; schedule = c.args.given } in
    let h = c.requires.other in
    let a =
    subst (λ (b : Bool). IsAdded c.args.book.now.told.items c.args.book.now.text.items item c.add.new.told.items c.add.new.text.items b) c.if-not-added.true
    c.in_ok-added.ensures in
    let one = same_one (g.T.Walker.code c.args.teller.now) (given_entries c.args.given) x h.outcome h.has c.in_ok-outcome.ensures.followed c.in_default.not-BudgetSpent in
    let own = subst (λ (o : Outcome). IsOutcomeEnd o.end) (sym one) (own_outcome (g.T.Walker.code c.args.teller.now) (given_entries c.args.given) h.outcome h.has) in
    record {
      code = c.replay.ensures.code;
      grows = same_grows c.args.book.now _ a.0 (λ e. absurd (true≢false e));
      book = book_same g.T.Teller.Explained (g.T.Walker.code c.args.teller.now) c.args.book.now _ c.requires.book a.0 a.1;
      cause = λ e.
          full_out g.T.Teller.Explained (g.T.Walker.code c.args.teller.now) c.args.book.now c.add.new.told.items c.add.new.text.items item c.requires.book
          (record { explained = c.in_ok-outcome.ensures.explained; own = own }) (λ t. h.other (subst (λ (o : Outcome). OutcomeIsTold c.args.book.now.told.items o) one t)) a;
      told = λ e. absurd (true≢false e);
    }

pub returns-else-not-added : goal.returns-else-not-added
returns-else-not-added g c =
    let x = c.in_ok-outcome.outcome in
    let item : Told = record { outcome = x; schedule = c.args.given } in
    let h = c.requires.other in
    let a =
    subst (λ (b : Bool). IsAdded c.args.book.now.told.items c.args.book.now.text.items item c.add.new.told.items c.add.new.text.items b) c.if-not-added.false
    c.in_ok-added.ensures in
    let one = same_one (g.T.Walker.code c.args.teller.now) (given_entries c.args.given) x h.outcome h.has c.in_ok-outcome.ensures.followed c.in_default.not-BudgetSpent in
    let own = subst (λ (o : Outcome). IsOutcomeEnd o.end) (sym one) (own_outcome (g.T.Walker.code c.args.teller.now) (given_entries c.args.given) h.outcome h.has) in
    record {
      code = c.replay.ensures.code;
      grows = added_grows c.args.book.now _ item a.0 refl;
      book = book_added g.T.Teller.Explained (g.T.Walker.code c.args.teller.now) c.args.book.now _ item c.requires.book a.0 a.1 a.2
          (record { explained = c.in_ok-outcome.ensures.explained; own = own }) (λ t. h.other (subst (λ (o : Outcome). OutcomeIsTold c.args.book.now.told.items o) one t));
      cause = λ e. absurd (true≢false (sym e ∙ c.requires.open));
      told = λ e o has.
          subst (λ (y : Outcome). OutcomeIsTold c.add.new.told.items y)
          (same_one (g.T.Walker.code c.args.teller.now) (given_entries c.args.given) x o has c.in_ok-outcome.ensures.followed c.in_default.not-BudgetSpent)
          (now_told c.args.book.now.told.items c.add.new.told.items item a.0);
    }
