-- Events that change each at its place, and the lists of those who wait for several: who leaves them.
use Rattle.std.proofs.Common.{◌≡◌, ◌≢◌, refl, sym, ap, ◌∙◌, ℕ, zero, suc, ◌+◌, ◌<◌, ◌≤◌, ◌==◌, ◌||◌, Bool, true, false, not, cond, List, [], ◌∷◌, length, All, Option, Some, None, inl, inr, arith}
use Rattle.std.specs.Prelude.{filter, map}
use Rattle.std.specs.List.{list_any}
use Rattle.std.specs.Option.{option_map}
use Rattle.std.proofs.Math.Decide.{ℕ_discrete}
use Rattle.std.proofs.lemmas.Bool.{or_cases, eqb-true, eq-eqb}
use Rattle.std.proofs.lemmas.List.{length-set}
use Rattle.std.proofs.lemmas.List.Elements.{All-set}
use Rattle.b67_list.specs.Numbered.{numbered, set_numbered}
use Rattle.b67_list.proofs.Truths.{not_both}
use Rattle.b67_word.specs.declared.Place.{Place}
use Rattle.b67_deeds.specs.Events.{left_by}
use Rattle.b67_events.specs.Events.{Event, same_place, event_at, is_open, state_of, waiters_at, procurers_at, with_state, withdrawn, list_of, unlisted, first_that, position_of}
use Rattle.b67_events.specs.Laws.{StaysInPlace, EventsAreApart}
use Rattle.b67_table.specs.Limits.{most_events}
use Rattle.b67_table.specs.Writes.{with_number, told_positions}
use Rattle.b67_table.proofs.Stacks.{get_numbered_other}
use Rattle.b67_table.proofs.EventKept.{Among, or_left, or_right}

-- ---- all events

module _ (f : Event → Event) (stays : StaysInPlace f) where
  at_by : (b : Bool) (e : Event) (o rest : Option Event) → rest ≡ option_map f o → cond b (Some (f e)) rest ≡ option_map f (cond b (Some e) o)
  at_by true e o rest h = refl
  at_by false e o rest h = h

  pub mapped_at : (to : Place) (es : List Event) → event_at to (map f es) ≡ option_map f (event_at to es)
  mapped_at to [] = refl
  mapped_at to (e ∷ es) =
      ap (λ p. cond (same_place p to) (Some (f e)) (event_at to (map f es))) (stays e)
      ∙ at_by (same_place e.place to) e (event_at to es) (event_at to (map f es)) (mapped_at to es)

  mapped_open : (to : Place) (es : List Event) → is_open to (map f es) ≡ is_open to es
  mapped_open to [] = refl
  mapped_open to (e ∷ es) =
      ap (λ p. same_place p to || is_open to (map f es)) (stays e) ∙ ap (λ b. same_place e.place to || b) (mapped_open to es)

  pub mapped_apart : (es : List Event) → EventsAreApart es → EventsAreApart (map f es)
  mapped_apart [] h = tt
  mapped_apart (e ∷ es) h = (ap (λ p. is_open p (map f es)) (stays e) ∙ mapped_open e.place es ∙ h.0, mapped_apart es h.1)

-- ---- who leaves the events

filtered : (q p : ℕ) (xs : List ℕ) → Among q (filter (λ x. not (p == x)) xs) → Among q xs × (p ≢ q)
filtered q p [] i = cc
filtered q p (x ∷ xs) i = by_test (filtered q p xs) (p == x) refl i
  where
    by_test : (Among q (filter (λ y. not (p == y)) xs) → Among q xs × (p ≢ q)) → (b : Bool) → (p == x) ≡ b → Among q (cond (not b) (x ∷ filter (λ y. not (p == y)) xs) (filter (λ y. not (p == y)) xs)) → Among q (x ∷ xs) × (p ≢ q)
    by_test later true h j = let r = later j in (or_right (q == x) (list_any (λ y. q == y) xs) r.0, r.1)
    by_test later false h j = elim (or_cases (q == x) (list_any (λ y. q == y) (filter (λ y. not (p == y)) xs)) j) [
      | inl k ↦ (or_left (q == x) (list_any (λ y. q == y) xs) k, λ e. not_both (p == x) (eq-eqb p x (e ∙ eqb-true q x k)) h)
      | inr k ↦ let r = later k in (or_right (q == x) (list_any (λ y. q == y) xs) r.0, r.1)
    ]

left_waiters : (q p : ℕ) (to : Place) (es : List Event) → Among q (waiters_at to (map (with_state (left_by p)) es)) → Among q (waiters_at to es) × (p ≢ q)
left_waiters q p to es i =
    by_event (event_at to es) (ap (λ o. list_any (λ x. q == x) (state_of o).waiters) (sym (mapped_at (with_state (left_by p)) (λ e. refl) to es)) ∙ i)
  where
    by_event : (o : Option Event) → Among q (state_of (option_map (with_state (left_by p)) o)).waiters → Among q (state_of o).waiters × (p ≢ q)
    by_event None j = absurd (not_both false j refl)
    by_event (Some e) j = filtered q p e.state.waiters j

-- who waits for an event after some have left all waited for it before, and is none of them
pub withdrawn_waiters : (q : ℕ) (to : Place) (ps : List ℕ) (es : List Event) → Among q (waiters_at to (withdrawn ps es))
    → Among q (waiters_at to es) × (Among q ps → ⊥)
withdrawn_waiters q to [] es i = (i, λ j. not_both false j refl)
withdrawn_waiters q to (p ∷ ps) es i =
    let later = withdrawn_waiters q to ps (map (with_state (left_by p)) es) i in
    let here = left_waiters q p to es later.0 in
    (here.0, λ j. elim (or_cases (q == p) (list_any (λ x. q == x) ps) j) [ inl k ↦ here.1 (sym (eqb-true q p k)) | inr k ↦ later.1 k ])

-- those who wait to procure an event stay
pub withdrawn_procurers : (to : Place) (ps : List ℕ) (es : List Event) → procurers_at to (withdrawn ps es) ≡ procurers_at to es
withdrawn_procurers to [] es = refl
withdrawn_procurers to (p ∷ ps) es =
    withdrawn_procurers to ps (map (with_state (left_by p)) es)
    ∙ ap (λ o. (state_of o).procurers) (mapped_at (with_state (left_by p)) (λ e. refl) to es) ∙ by_event (event_at to es)
  where
    by_event : (o : Option Event) → (state_of (option_map (with_state (left_by p)) o)).procurers ≡ (state_of o).procurers
    by_event None = refl
    by_event (Some e) = refl

pub withdrawn_apart : (ps : List ℕ) (es : List Event) → EventsAreApart es → EventsAreApart (withdrawn ps es)
withdrawn_apart [] es h = h
withdrawn_apart (p ∷ ps) es h = withdrawn_apart ps (map (with_state (left_by p)) es) (mapped_apart (with_state (left_by p)) (λ e. refl) es h)

-- ---- lists of places

pub same_list : (q p : ℕ) (xs ys : List (List Place)) → numbered xs q ≡ numbered ys p → list_of q xs ≡ list_of p ys
same_list q p xs ys e = rw e refl

other_list : (q p : ℕ) (lists : List (List Place)) → q ≢ p → list_of q (set_numbered lists p []) ≡ list_of q lists
other_list q p lists n = same_list q q (set_numbered lists p []) lists (get_numbered_other lists p q [] n)

none_here : (p : ℕ) (lists : List (List Place)) → list_of p (set_numbered lists p []) ≡ []
none_here zero lists = refl
none_here (suc zero) [] = refl
none_here (suc zero) (l ∷ lists) = refl
none_here (suc (suc p)) [] = refl
none_here (suc (suc p)) (l ∷ lists) = none_here (suc p) lists

none_set : (q p : ℕ) (lists : List (List Place)) → list_of q lists ≡ [] → Dec (q ≡ p) → list_of q (set_numbered lists p []) ≡ []
none_set q p lists e (yes i) = ap (λ n. list_of n (set_numbered lists p [])) i ∙ none_here p lists
none_set q p lists e (no n) = other_list q p lists n ∙ e

none_stays : (q : ℕ) (ps : List ℕ) (lists : List (List Place)) → list_of q lists ≡ [] → list_of q (unlisted ps lists) ≡ []
none_stays q [] lists e = e
none_stays q (p ∷ ps) lists e = none_stays q ps (set_numbered lists p []) (none_set q p lists e (ℕ_discrete q p))

pub unlisted_here : (q : ℕ) (ps : List ℕ) (lists : List (List Place)) → Among q ps → list_of q (unlisted ps lists) ≡ []
unlisted_here q [] lists i = absurd (not_both false i refl)
unlisted_here q (p ∷ ps) lists i = elim (or_cases (q == p) (list_any (λ x. q == x) ps) i) [
  | inl k ↦ none_stays q ps (set_numbered lists p []) (ap (λ n. list_of n (set_numbered lists p [])) (eqb-true q p k) ∙ none_here p lists)
  | inr k ↦ unlisted_here q ps (set_numbered lists p []) k
]

pub unlisted_other : (q : ℕ) (ps : List ℕ) (lists : List (List Place)) → (Among q ps → ⊥) → list_of q (unlisted ps lists) ≡ list_of q lists
unlisted_other q [] lists n = refl
unlisted_other q (p ∷ ps) lists n =
    unlisted_other q ps (set_numbered lists p []) (λ j. n (or_right (q == p) (list_any (λ x. q == x) ps) j))
    ∙ other_list q p lists (λ e. n (or_left (q == p) (list_any (λ x. q == x) ps) (eq-eqb q p e)))

-- ---- positions

pub first_within : (test : Place → Bool) (n : ℕ) (places : List Place) (m : ℕ) → first_that test n places ≡ Some m → m < n + length places
first_within test n [] m e = cc
first_within test n (x ∷ places) m e = by_test (first_within test (n + 1) places m) (test x) e
  where
    by_test : (first_that test (n + 1) places ≡ Some m → m < n + 1 + length places) → (b : Bool) → cond b (Some n) (first_that test (n + 1) places) ≡ Some m → m < n + length (x ∷ places)
    by_test later true i = let same : n ≡ m = cc in omega arith
    by_test later false i = let rest = later i in omega arith

abbrev pub AreSmall : List ℕ → Type 0
AreSmall numbers = All (λ (n : ℕ). n ≤ most_events) numbers

pub number_set : (numbers : List ℕ) (p n : ℕ) → n ≤ most_events → AreSmall numbers → AreSmall (set_numbered numbers p n)
number_set numbers zero n h a = a
number_set numbers (suc k) n h a = All-set (λ (m : ℕ). m ≤ most_events) numbers k n h a

pub length_set : (numbers : List ℕ) (p n : ℕ) → length (set_numbered numbers p n) ≡ length numbers
length_set numbers zero n = refl
length_set numbers (suc k) n = length-set numbers k n

module _ (place : Place) (lists : List (List Place)) where
  length_with : (o : Option ℕ) (p : ℕ) (numbers : List ℕ) → length (with_number o p numbers) ≡ length numbers
  length_with None p numbers = refl
  length_with (Some n) p numbers = length_set numbers p n

  pub told_length : (ps numbers : List ℕ) → length (told_positions place lists ps numbers) ≡ length numbers
  told_length [] numbers = refl
  told_length (p ∷ ps) numbers =
      told_length ps (with_number (position_of place lists p) p numbers) ∙ length_with (position_of place lists p) p numbers

  module _ (short : (p : ℕ) → length (list_of p lists) ≤ most_events) where
    small_with : (o : Option ℕ) (p : ℕ) (numbers : List ℕ) → ((n : ℕ) → o ≡ Some n → n ≤ most_events) → AreSmall numbers → AreSmall (with_number o p numbers)
    small_with None p numbers k a = a
    small_with (Some n) p numbers k a = number_set numbers p n (k n refl) a

    pub told_small : (ps numbers : List ℕ) → AreSmall numbers → AreSmall (told_positions place lists ps numbers)
    told_small [] numbers a = a
    told_small (p ∷ ps) numbers a =
        told_small ps (with_number (position_of place lists p) p numbers)
        (small_with (position_of place lists p) p numbers
        (λ n e. let within = first_within (λ x. same_place x place) 1 (list_of p lists) n e in omega (arith, within, short p)) a)
