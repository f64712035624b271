-- Who joins several events: each once, and no more than there are.
use Rattle.std.proofs.Common.{◌≡◌, ℕ, ◌+◌, ◌≤◌, Bool, true, false, cond, not, ◌&&◌, ◌||◌, eqb, List, [], ◌∷◌, ◌++◌, length, map, take, drop, get_or, ◌<◌, refl, sym, ap, ◌∙◌, subst, inl, inr, arith, append_assoc}
use Rattle.std.specs.Prelude.{if◌then◌else◌, All}
use Rattle.std.specs.List.{list_any}
use Rattle.std.proofs.lemmas.Bool.{cases_Bool, cond-true, cond-false, and_from, and_left, and_right, both_ways, false_from_ne_true, not_from_true, not_from_false, or_parts, or_from, or_left, or_right}
use Rattle.std.proofs.lemmas.List.{drop_more, take_more}
use Rattle.std.proofs.lemmas.List.Elements.{All-head, All-tail}
use Rattle.std.proofs.lemmas.List.Folds.{list_any-append}
use Rattle.b67_word.specs.declared.Place.{Place}
use Rattle.b67_deeds.specs.Events.{joined}
use Rattle.b67_events.specs.Events.{Event, same_place, with_state, event_is_among, joined_all}
use Rattle.b67_events.specs.Kept.{stands_in, EventEntry, events_of, has_flags, among, is_same, AreQueued, waiter_numbers_of, joiners}
use Rattle.b67_events.specs.Once.{times_in}
use Rattle.b67_events.specs.declared.Queue.TheVariants.{Waiters}
use Rattle.b67_events.specs.declared.Waiting.{Waiting}
use Rattle.b67_events.proofs.Listed.{same_place_true, same_place_self}
use Rattle.b67_events.proofs.Numbers.{one_if}
use Rattle.b67_events.proofs.Queued.{queued_push, apart_none}
use Rattle.b67_events.proofs.Shown.{events_joined}

-- an event that is among these places, and not among those that were seen
abbrev joins : List Place → List Place → ℕ → Event → Event
joins seen ats p e = if event_is_among ats e.place && not (event_is_among seen e.place) then with_state (joined p) e else e

map_same : (f g : Event → Event) → ((e : Event) → f e ≡ g e) → (es : List Event) → map f es ≡ map g es
map_same f g same [] = refl
map_same f g same (e ∷ es) = ap (λ k. k ∷ map f es) (same e) ∙ ap (λ ks. g e ∷ ks) (map_same f g same es)

map_none : (f : Event → Event) → ((e : Event) → f e ≡ e) → (es : List Event) → map f es ≡ es
map_none f same [] = refl
map_none f same (e ∷ es) = ap (λ k. k ∷ map f es) (same e) ∙ ap (λ ks. e ∷ ks) (map_none f same es)

map_twice : (f g : Event → Event) (es : List Event) → map f (map g es) ≡ map (λ e. f (g e)) es
map_twice f g [] = refl
map_twice f g (e ∷ es) = ap (λ ks. f (g e) ∷ ks) (map_twice f g es)

seen_more : (seen : List Place) (a x : Place) → event_is_among (seen ++ a ∷ []) x ≡ (event_is_among seen x || same_place a x)
seen_more seen a x = list_any-append (λ q. same_place q x) seen (a ∷ []) ∙ ap (λ t. event_is_among seen x || t) (or_none (same_place a x))
  where
    or_none : (t : Bool) → (t || false) ≡ t
    or_none true = refl
    or_none false = refl

-- a place that was seen before is not asked for again
drops : (t u k : Bool) → (u ≡ true → k ≡ true) → (t && not (k || u)) ≡ ((u || t) && not k)
drops true true true h = refl
drops true true false h = let no : false ≡ true = h refl in cc
drops true false true h = refl
drops true false false h = refl
drops false true true h = refl
drops false true false h = let no : false ≡ true = h refl in cc
drops false false true h = refl
drops false false false h = refl

joins_seen : (seen ats : List Place) (a : Place) (p : ℕ) → event_is_among seen a ≡ true → (e : Event) → joins (seen ++ a ∷ []) ats p e ≡ joins seen (a ∷ ats) p e
joins_seen seen ats a p there e =
    ap (λ t. cond (event_is_among ats e.place && not t) (with_state (joined p) e) e) (seen_more seen a e.place)
    ∙ ap (λ t. cond t (with_state (joined p) e) e)
    (drops (event_is_among ats e.place) (same_place a e.place) (event_is_among seen e.place) (λ h. ap (event_is_among seen) (sym (same_place_true a e.place h)) ∙ there))

turned : (p q : Place) → same_place p q ≡ same_place q p
turned p q = elim (cases_Bool (same_place p q)) [
  | inl e ↦ e ∙ sym (same_place_self q p (sym (same_place_true p q e)))
  | inr e ↦ e ∙ sym (false_from_ne_true (same_place q p) (λ h. both_ways (same_place p q) e (same_place_self p q (sym (same_place_true q p h)))))
]

joins_new : (seen ats : List Place) (a : Place) (p : ℕ) → event_is_among seen a ≡ false → (e : Event)
    → joins (seen ++ a ∷ []) ats p (cond (same_place e.place a) (with_state (joined p) e) e) ≡ joins seen (a ∷ ats) p e
joins_new seen ats a p fresh e = elim (cases_Bool (same_place e.place a)) [
  | inl h ↦
      let same : e.place ≡ a = same_place_true e.place a h in
      let back : same_place a e.place ≡ true = same_place_self a e.place (sym same) in
      let unseen : event_is_among seen e.place ≡ false = ap (event_is_among seen) same ∙ fresh in
      let now : event_is_among (seen ++ a ∷ []) e.place ≡ true = seen_more seen a e.place ∙ or_right (event_is_among seen e.place) (same_place a e.place) back in
      ap (joins (seen ++ a ∷ []) ats p) (cond-true (same_place e.place a) (with_state (joined p) e) e h)
      ∙ cond-false (event_is_among ats e.place && not (event_is_among (seen ++ a ∷ []) e.place)) (with_state (joined p) (with_state (joined p) e)) (with_state (joined p) e)
      (and_right (event_is_among ats e.place) (not (event_is_among (seen ++ a ∷ []) e.place)) (not_from_true (event_is_among (seen ++ a ∷ []) e.place) now))
      ∙ sym (cond-true ((same_place a e.place || event_is_among ats e.place) && not (event_is_among seen e.place)) (with_state (joined p) e) e
      (and_from (same_place a e.place || event_is_among ats e.place) (not (event_is_among seen e.place)) (or_left (same_place a e.place) (event_is_among ats e.place) back) (not_from_false (event_is_among seen e.place) unseen)))
  | inr h ↦
      let back : same_place a e.place ≡ false = turned a e.place ∙ h in
      ap (joins (seen ++ a ∷ []) ats p) (cond-false (same_place e.place a) (with_state (joined p) e) e h)
      ∙ ap (λ t. cond (event_is_among ats e.place && not t) (with_state (joined p) e) e) (seen_more seen a e.place)
      ∙ ap (λ t. cond t (with_state (joined p) e) e) (drops (event_is_among ats e.place) (same_place a e.place) (event_is_among seen e.place) (λ k. absurd (both_ways (same_place a e.place) back k)))
]

abbrev pub one : ℕ → Place → Waiting
one p a = record { process = p; place = a; queue = Waiters }

events_joiners : (fs : List EventEntry) (p : ℕ) (seen ats : List Place) (ws : List Waiting) → events_of fs (ws ++ joiners p seen ats) ≡ map (joins seen ats p) (events_of fs ws)
events_joiners fs p seen [] ws =
    ap (events_of fs) (nothing ws) ∙ sym (map_none (joins seen [] p) (λ e. refl) (events_of fs ws))
  where
    nothing : (vs : List Waiting) → vs ++ [] ≡ vs
    nothing [] = refl
    nothing (v ∷ vs) = ap (λ us. v ∷ us) (nothing vs)
events_joiners fs p seen (a ∷ ats) ws =
    let rest = joiners p (seen ++ a ∷ []) ats in
    elim (cases_Bool (event_is_among seen a)) [
      | inl e ↦
          ap (λ vs. events_of fs (ws ++ vs)) (cond-true (event_is_among seen a) rest (one p a ∷ rest) e)
          ∙ events_joiners fs p (seen ++ a ∷ []) ats ws
          ∙ map_same (joins (seen ++ a ∷ []) ats p) (joins seen (a ∷ ats) p) (joins_seen seen ats a p e) (events_of fs ws)
      | inr e ↦
          ap (λ vs. events_of fs (ws ++ vs)) (cond-false (event_is_among seen a) rest (one p a ∷ rest) e)
          ∙ ap (events_of fs) (sym (append_assoc ws (one p a ∷ []) rest))
          ∙ events_joiners fs p (seen ++ a ∷ []) ats (ws ++ one p a ∷ [])
          ∙ ap (map (joins (seen ++ a ∷ []) ats p)) (events_joined a p fs ws)
          ∙ map_twice (joins (seen ++ a ∷ []) ats p) (λ e. cond (same_place e.place a) (with_state (joined p) e) e) (events_of fs ws)
          ∙ map_same (λ e. joins (seen ++ a ∷ []) ats p (cond (same_place e.place a) (with_state (joined p) e) e)) (joins seen (a ∷ ats) p) (joins_new seen ats a p e) (events_of fs ws)
    ]

pub events_any : (fs : List EventEntry) (p : ℕ) (places : List Place) (ws : List Waiting)
    → events_of fs (ws ++ joiners p [] places) ≡ joined_all places p (events_of fs ws)
events_any fs p places ws =
    events_joiners fs p [] places ws
    ∙ map_same (joins [] places p) (λ e. if event_is_among places e.place then with_state (joined p) e else e)
    (λ e. ap (λ t. cond t (with_state (joined p) e) e) (and_all (event_is_among places e.place))) (events_of fs ws)
  where
    and_all : (t : Bool) → (t && true) ≡ t
    and_all true = refl
    and_all false = refl

-- ---- who joins is known, stands once in each list, and no more than so many times

queued_joiners : (fs : List EventEntry) (n p : ℕ) → 1 ≤ p → p ≤ n → (seen ats : List Place) → All (λ (a : Place). has_flags a fs ≡ true) ats
    → (ws : List Waiting) → ((x : Place) → event_is_among seen x ≡ false → list_any (λ v. is_same v (one p x)) ws ≡ false) → AreQueued fs n ws → AreQueued fs n (ws ++ joiners p seen ats)
queued_joiners fs n p low high seen [] open_all ws free h = subst (AreQueued fs n) (sym (nothing ws)) h
  where
    nothing : (vs : List Waiting) → vs ++ [] ≡ vs
    nothing [] = refl
    nothing (v ∷ vs) = ap (λ us. v ∷ us) (nothing vs)
queued_joiners fs n p low high seen (a ∷ ats) open_all ws free h =
    let rest = joiners p (seen ++ a ∷ []) ats in
    let more = All-tail (λ (q : Place). has_flags q fs ≡ true) a ats open_all in
    elim (cases_Bool (event_is_among seen a)) [
      | inl e ↦
          subst (λ vs. AreQueued fs n (ws ++ vs)) (sym (cond-true (event_is_among seen a) rest (one p a ∷ rest) e))
          (queued_joiners fs n p low high (seen ++ a ∷ []) ats more ws (λ x k. free x (or_parts (event_is_among seen x) (same_place a x) (sym (seen_more seen a x) ∙ k)).0) h)
      | inr e ↦
          let now : AreQueued fs n (ws ++ one p a ∷ []) = queued_push fs n (one p a) low high (All-head (λ (q : Place). has_flags q fs ≡ true) a ats open_all) ws (free a e) h in
          let still : (x : Place) → event_is_among (seen ++ a ∷ []) x ≡ false → list_any (λ v. is_same v (one p x)) (ws ++ one p a ∷ []) ≡ false = λ x k.
          let parts = or_parts (event_is_among seen x) (same_place a x) (sym (seen_more seen a x) ∙ k) in
          let apart : is_same (one p a) (one p x) ≡ false = and_right (eqb p p) (stands_in Waiters a (one p x)) (and_left (same_place a x) true parts.1) in
          list_any-append (λ v. is_same v (one p x)) ws (one p a ∷ []) ∙ or_from (list_any (λ v. is_same v (one p x)) ws) (list_any (λ v. is_same v (one p x)) (one p a ∷ [])) (free x parts.0) (or_from (is_same (one p a) (one p x)) false apart refl) in
          subst (λ vs. AreQueued fs n (ws ++ vs)) (sym (cond-false (event_is_among seen a) rest (one p a ∷ rest) e))
          (subst (AreQueued fs n) (append_assoc ws (one p a ∷ []) rest) (queued_joiners fs n p low high (seen ++ a ∷ []) ats more (ws ++ one p a ∷ []) still now))
    ]

pub queued_any : (fs : List EventEntry) (n p : ℕ) → 1 ≤ p → p ≤ n → (ats : List Place) → All (λ (a : Place). has_flags a fs ≡ true) ats
    → (ws : List Waiting) → among p ws ≡ false → AreQueued fs n ws → AreQueued fs n (ws ++ joiners p [] ats)
queued_any fs n p low high ats open_all ws idle h = queued_joiners fs n p low high [] ats open_all ws (λ x k. apart_none (one p x) ws idle) h

-- how often each joins
joiners_other : (p q : ℕ) (seen ats : List Place) → eqb q p ≡ false → times_in q (waiter_numbers_of (joiners p seen ats)) ≡ 0
joiners_other p q seen [] e = refl
joiners_other p q seen (a ∷ ats) e =
    let rest = joiners p (seen ++ a ∷ []) ats in
    let more = joiners_other p q (seen ++ a ∷ []) ats e in
    let head : one_if (eqb q p) ≡ 0 = cond-false (eqb q p) 1 0 e in
    elim (cases_Bool (event_is_among seen a)) [
      | inl k ↦ ap (λ vs. times_in q (waiter_numbers_of vs)) (cond-true (event_is_among seen a) rest (one p a ∷ rest) k) ∙ more
      | inr k ↦ let is : times_in q (waiter_numbers_of (one p a ∷ rest)) ≡ 0 = omega arith in ap (λ vs. times_in q (waiter_numbers_of vs)) (cond-false (event_is_among seen a) rest (one p a ∷ rest) k) ∙ is
    ]

joiners_own : (p q : ℕ) (seen ats : List Place) → times_in q (waiter_numbers_of (joiners p seen ats)) ≤ length ats
joiners_own p q seen [] = omega arith
joiners_own p q seen (a ∷ ats) =
    let rest = joiners p (seen ++ a ∷ []) ats in
    let more = joiners_own p q (seen ++ a ∷ []) ats in
    let head : one_if (eqb q p) ≤ 1 = elim (cases_Bool (eqb q p)) [
      | inl k ↦ let is : one_if (eqb q p) ≡ 1 = cond-true (eqb q p) 1 0 k in omega arith
      | inr k ↦ let is : one_if (eqb q p) ≡ 0 = cond-false (eqb q p) 1 0 k in omega arith
    ] in
    elim (cases_Bool (event_is_among seen a)) [
      | inl k ↦ let is : times_in q (waiter_numbers_of (joiners p seen (a ∷ ats))) ≡ times_in q (waiter_numbers_of rest) = ap (λ vs. times_in q (waiter_numbers_of vs)) (cond-true (event_is_among seen a) rest (one p a ∷ rest) k) in omega arith
      | inr k ↦ let is : times_in q (waiter_numbers_of (joiners p seen (a ∷ ats))) ≡ times_in q (waiter_numbers_of (one p a ∷ rest)) = ap (λ vs. times_in q (waiter_numbers_of vs)) (cond-false (event_is_among seen a) rest (one p a ∷ rest) k) in omega arith
    ]

pub joiners_few : (p q : ℕ) (seen ats : List Place) → (times_in q (waiter_numbers_of (joiners p seen ats)) ≤ length ats) × (eqb q p ≡ false → times_in q (waiter_numbers_of (joiners p seen ats)) ≡ 0)
joiners_few p q seen ats = (joiners_own p q seen ats, joiners_other p q seen ats)

-- the next of the places, which stood before it or did not
module _ (p i : ℕ) (ats : List Place) (d : Place) (short : i < length ats) where
  abbrev next : Place
  next = get_or ats i d

  abbrev more : List Waiting
  more = joiners p (take (i + 1) ats) (drop (i + 1) ats)

  joiners_step : joiners p (take i ats) (drop i ats) ≡ (if event_is_among (take i ats) next then more else one p next ∷ more)
  joiners_step =
      ap (joiners p (take i ats)) (drop_more ats i d short)
      ∙ ap (λ xs. if event_is_among (take i ats) next then joiners p xs (drop (i + 1) ats) else one p next ∷ joiners p xs (drop (i + 1) ats)) (sym (take_more ats i d short))

  pub joiners_again : event_is_among (take i ats) next ≡ true → joiners p (take i ats) (drop i ats) ≡ more
  joiners_again seen = joiners_step ∙ cond-true (event_is_among (take i ats) next) more (one p next ∷ more) seen

  pub joiners_new : event_is_among (take i ats) next ≡ false → joiners p (take i ats) (drop i ats) ≡ one p next ∷ more
  joiners_new fresh = joiners_step ∙ cond-false (event_is_among (take i ats) next) more (one p next ∷ more) fresh
