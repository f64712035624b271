-- What is told stays told, and each outcome once.
use Rattle.std.proofs.Common.{◌≡◌, refl, sym, ap, subst, ◌∙◌, ℕ, zero, suc, ◌+◌, ◌<◌, ◌≤◌, false, List, [], ◌∷◌, ◌++◌, length, reverse, append_assoc, append-nil, Contains, Some, arith, inl, inr}
use Rattle.std.specs.Prelude.{◌⊎◌, slice_get}
use Rattle.std.specs.List.{All}
use Rattle.std.proofs.lemmas.Bool.{cases_lt}
use Rattle.std.proofs.lemmas.List.{map-append}
use Rattle.std.proofs.lemmas.Grind.{flat_map-append}
use Rattle.std.proofs.lemmas.List.Elements.{All-push, Contains-append_left, Contains-push}
use Rattle.std.proofs.lemmas.Option.{same_Some, none-some, slice_get_within}
use Rattle.b67_segment.specs.declared.code.Code.{Code}
use Rattle.b67_schedule.specs.declared.reading.Given.{Given}
use Rattle.b67_schedule.specs.Giving.{given_entries}
use Rattle.b67_told.specs.declared.TheConstants.{MOST_TEXT_BYTES}
use Rattle.b67_told.specs.declared.Outcome.{Outcome}
use Rattle.b67_told.specs.declared.Told.{Told}
use Rattle.b67_told.specs.Telling.{outcomes_in, OutcomeIsTold, AreDifferent}
use Rattle.b67_told.specs.Texts.{told_text, told_texts}
use Rattle.b67_outcomes.specs.declared.found.State.{State}
use Rattle.b67_outcomes.specs.declared.found.Limit.{Limit}
use Rattle.b67_outcomes.specs.declared.found.Found.{Found}
use Rattle.b67_outcomes.specs.Finding.{History, IsState}
use Rattle.b67_outcomes.proofs.Trees.{last_or_old}
use Rattle.b67_teller.specs.declared.book.Book.{Book}
use Rattle.b67_teller.specs.Following.{IsLong}
use Rattle.b67_teller.specs.Books.{IsScheduleOf, IsConfirmed, IsLeftOut, IsBook, HasOther, BookGrows, IsAdded, IsHistoryWith, IsStateTold, IsLimitTold, AreLimitsTold}

-- ---- what was told

pub grows_more : (a b c : Book) → BookGrows a b → BookGrows b c → BookGrows a c
grows_more a b c g h =
    record {
      more = g.more ++ h.more;
      told = h.told ∙ ap (λ (z : List Told). z ++ h.more) g.told ∙ append_assoc a.told.items g.more h.more;
      cut = λ e. g.cut (h.cut e);
    }

pub told_stays : (a b : Book) (o : Outcome) → BookGrows a b → OutcomeIsTold a.told.items o → OutcomeIsTold b.told.items o
told_stays a b o g t =
    subst (λ (z : List Told). OutcomeIsTold z o) (sym g.told)
    (subst (λ (z : List Outcome). Contains z o) (sym (map-append (λ (x : Told). x.outcome) a.told.items g.more))
    (Contains-append_left (outcomes_in a.told.items) (outcomes_in g.more) o t))

pub state_stays : (code : Code) (found : Found) (a b : Book) (number : ℕ) → BookGrows a b → IsStateTold code found a.told.items number → IsStateTold code found b.told.items number
state_stays code found a b number g t = λ h img e is leads there. told_stays a b _ g (t h img e is leads there)

pub limits_stay : (code : Code) (found : Found) (a b : Book) (to : ℕ) → BookGrows a b → AreLimitsTold code found a.told.items to → AreLimitsTold code found b.told.items to
limits_stay code found a b to g t = λ k l below there h img quiet is leads stops. told_stays a b _ g (t k l below there h img quiet is leads stops)

pub limits_next : (code : Code) (found : Found) (told : List Told) (at : ℕ) (l : Limit) → slice_get found.limits.items at ≡ Some l → AreLimitsTold code found told at
    → IsLimitTold code found told l → AreLimitsTold code found told (at + 1)
limits_next code found told at l there before here k m below is = by (cases_lt k at)
  where
    by : (k < at) ⊎ (at ≤ k) → IsLimitTold code found told m
    by (inl less) = before k m less is
    by (inr more) =
        let same : at ≡ k = omega (arith, more, below) in
        subst (λ (z : Limit). IsLimitTold code found told z) (same_Some l m (sym there ∙ ap (λ (i : ℕ). slice_get found.limits.items i) same ∙ is)) here

-- the outcomes of the states before a place are told
abbrev pub AreStatesTold : Code → Found → List Told → ℕ → Type 0
AreStatesTold code found told to = (k : ℕ) (s : State) → k < to → slice_get found.states.items k ≡ Some s → IsStateTold code found told s.number

pub states_stay : (code : Code) (found : Found) (a b : Book) (to : ℕ) → BookGrows a b → AreStatesTold code found a.told.items to → AreStatesTold code found b.told.items to
states_stay code found a b to g before k s below there = state_stays code found a b s.number g (before k s below there)

pub states_next : (code : Code) (found : Found) (told : List Told) (at : ℕ) (s : State) → slice_get found.states.items at ≡ Some s → AreStatesTold code found told at
    → IsStateTold code found told s.number → AreStatesTold code found told (at + 1)
states_next code found told at s there before here k m below is = by (cases_lt k at)
  where
    by : (k < at) ⊎ (at ≤ k) → IsStateTold code found told m.number
    by (inl less) = before k m less is
    by (inr more) =
        let same : at ≡ k = omega (arith, more, below) in
        subst (λ (z : State). IsStateTold code found told z.number) (same_Some s m (sym there ∙ ap (λ (i : ℕ). slice_get found.states.items i) same ∙ is)) here

-- ---- lists

contained : (told : List Told) (k : ℕ) (y : Told) → slice_get told k ≡ Some y → OutcomeIsTold told y.outcome
contained [] k y e = absurd (none-some y e)
contained (z ∷ told) zero y e = (0, omega arith, ap (λ (x : Told). x.outcome) (same_Some z y e))
contained (z ∷ told) (suc k) y e = let c = contained told k y e in (suc c.0, let within = c.1 in omega (arith, within), c.2)

-- ---- one more outcome

module _ (E : Code → Given → Outcome → Type 0) (code : Code) where
  -- where one is left out, the others are told as they were
  pub book_same : (old new : Book) → IsBook E code old → new.told.items ≡ old.told.items → new.text.items ≡ old.text.items → IsBook E code new
  book_same old new b told text =
      record {
        confirmed = subst (λ (z : List Told). All (IsConfirmed E code) z) (sym told) b.confirmed;
        different = subst (λ (z : List Told). AreDifferent z) (sym told) b.different;
        text = text ∙ b.text ∙ sym (ap told_texts told);
        short = let same = ap (λ (z : List ℕ). length z) text in let short = b.short in omega (arith, same, short);
      }

  -- it is left out since the text would be too long with it
  pub full_out : (old : Book) (told : List Told) (text : List ℕ) (x : Told) → IsBook E code old → IsConfirmed E code x → (OutcomeIsTold old.told.items x.outcome → ⊥)
      → IsAdded old.told.items old.text.items x told text false → IsLeftOut E code told (given_entries x.schedule)
  full_out old told text x b confirmed other a =
      let long = a.2 in
      let same = ap (λ (z : List ℕ). length z) b.text in
      subst (λ (z : List Told). IsLeftOut E code z (given_entries x.schedule)) (sym a.0)
      (inr (record { item = x; schedule_is = refl; confirmed = confirmed; other = other; long = omega (arith, long, same) }))

  -- or since its schedule is too long
  pub long_out : (told : List Told) (schedule : List ℕ) → HasOther code schedule told → IsLong code schedule → IsLeftOut E code told schedule
  long_out told schedule h long = inl (record { outcome = h.outcome; has = h.has; other = h.other; long = long })

  pub book_added : (old new : Book) (x : Told) → IsBook E code old → new.told.items ≡ old.told.items ++ x ∷ [] → new.text.items ≡ old.text.items ++ told_text x
      → length new.text.items ≤ MOST_TEXT_BYTES → IsConfirmed E code x → (OutcomeIsTold old.told.items x.outcome → ⊥) → IsBook E code new
  book_added old new x b told text short confirmed other =
      record {
        confirmed = subst (λ (z : List Told). All (IsConfirmed E code) z) (sym told) (All-push (IsConfirmed E code) old.told.items x b.confirmed confirmed);
        different = λ j k y z less at e.
            differ j k y z less (last_or_old old.told.items x y j (sym (ap (λ (w : List Told). slice_get w j) told) ∙ at))
            (last_or_old old.told.items x z k (sym (ap (λ (w : List Told). slice_get w k) told) ∙ e));
        text =
            text ∙ ap (λ (z : List ℕ). z ++ told_text x) b.text ∙ ap (λ (z : List ℕ). told_texts old.told.items ++ z) (sym (append-nil (told_text x)))
            ∙ sym (flat_map-append (λ (y : Told). told_text y) old.told.items (x ∷ [])) ∙ sym (ap told_texts told);
        short = short;
      }
    where
      differ : (j k : ℕ) (y z : Told) → j < k → (slice_get old.told.items j ≡ Some y) ⊎ ((j ≡ length old.told.items) × (x ≡ y))
          → (slice_get old.told.items k ≡ Some z) ⊎ ((k ≡ length old.told.items) × (x ≡ z)) → y.outcome ≡ z.outcome → ⊥
      differ j k y z less (inl f) (inl g) = b.different j k y z less f g
      differ j k y z less (inr f) (inl g) = let within = slice_get_within old.told.items k z g in let at = f.0 in absurd (omega (arith, less, within, at))
      differ j k y z less (inr f) (inr g) = let at = f.0 in let also = g.0 in absurd (omega (arith, less, at, also))
      differ j k y z less (inl f) (inr g) = λ same.
          other (subst (λ (o : Outcome). OutcomeIsTold old.told.items o) (same ∙ sym (ap (λ (w : Told). w.outcome) g.1)) (contained old.told.items j y f))

-- ---- where a schedule is of

-- that of a state
pub state_schedule : (found : Found) (number : ℕ) (h schedule : List ℕ) → IsState found.states.items number → History found.steps.items number h
    → schedule ≡ reverse h → IsScheduleOf found schedule
state_schedule found number h schedule x is e =
    record {
      place = x.0;
      state = x.1;
      there = x.2;
      history = h;
      is = subst (λ (n : ℕ). History found.steps.items n h) (sym x.3) is;
      after = inl e;
    }

-- that of a stack limit after one
pub limit_schedule : (found : Found) (l : Limit) (h schedule : List ℕ) → IsState found.states.items l.state → IsHistoryWith found.steps.items l h
    → schedule ≡ reverse h → IsScheduleOf found schedule
limit_schedule found l h schedule x with e =
    record {
      place = x.0;
      state = x.1;
      there = x.2;
      history = with.0;
      is = subst (λ (n : ℕ). History found.steps.items n with.0) (sym x.3) with.1;
      after = inr (l.process, e ∙ ap reverse with.2);
    }

-- the one that was added is told
pub now_told : (told new : List Told) (x : Told) → new ≡ told ++ x ∷ [] → OutcomeIsTold new x.outcome
now_told told new x same =
    subst (λ (z : List Told). OutcomeIsTold z x.outcome) (sym same)
    (subst (λ (z : List Outcome). Contains z x.outcome) (sym (map-append (λ (y : Told). y.outcome) told (x ∷ []))) (Contains-push (outcomes_in told) x.outcome))

pub added_grows : (old new : Book) (x : Told) → new.told.items ≡ old.told.items ++ x ∷ [] → new.cut ≡ old.cut → BookGrows old new
added_grows old new x told cut = record { more = x ∷ []; told = told; cut = λ e. sym cut ∙ e }

pub same_grows : (old new : Book) → new.told.items ≡ old.told.items → (new.cut ≡ false → old.cut ≡ false) → BookGrows old new
same_grows old new told cut = record { more = []; told = told ∙ sym (append-nil old.told.items); cut = cut }
