-- One who is put at its place: it stands there once, and all others as before.
use Rattle.std.proofs.Common.{◌≡◌, ℕ, ◌+◌, ◌≤◌, Bool, false, cond, not, ◌<◌, ◌&&◌, ◌||◌, eqb, ltb, List, [], ◌∷◌, ◌++◌, length, map, refl, sym, ap, ◌∙◌, subst, inl, inr, arith, append_assoc}
use Rattle.std.specs.Prelude.{filter}
use Rattle.std.specs.List.{list_any}
use Rattle.std.proofs.lemmas.Bool.{cases_Bool, cond-true, cond-false, and_parts, and_from, both_ways, false_from_ne_true, not_from_true, not_from_false, eqb-true, or_parts, or_from}
use Rattle.std.proofs.lemmas.List.Elements.{filter-append}
use Rattle.b67_word.specs.declared.Place.{Place}
use Rattle.b67_events.specs.Kept.{stands_in, waiters_listed, EventEntry, events_of, without_first, is_same, stands_again, AreQueued, waiter_numbers_of, IsKept, AreInOrder, stand, stand_all, StandOnce, rank_of}
use Rattle.b67_events.specs.Once.{times_in}
use Rattle.b67_events.specs.declared.Queue.{Queue}
use Rattle.b67_events.specs.declared.Waiting.{Waiting}
use Rattle.b67_events.proofs.Queued.{any_filter, swapped}
use Rattle.b67_events.proofs.Same.{waiting_same, events_same}
use Rattle.b67_events.proofs.Order.{order_stand, stand_listed}

-- one in the middle passes a test, or one of the others
pub any_front : (t : Waiting → Bool) (one : Waiting) (xs ys : List Waiting) → list_any t (xs ++ one ∷ ys) ≡ (t one || list_any t (xs ++ ys))
any_front t one [] ys = refl
any_front t one (x ∷ xs) ys = ap (λ b. t x || b) (any_front t one xs ys) ∙ swapped (t x) (t one) (list_any t (xs ++ ys))

pub any_stand : (t : Waiting → Bool) (one : Waiting) (ws ys : List Waiting) → list_any t (stand one ws ++ ys) ≡ (t one || list_any t (ws ++ ys))
any_stand t one [] ys = refl
any_stand t one (w ∷ ws) ys =
    let b = ltb (rank_of one) (rank_of w) in
    elim (cases_Bool b) [
      | inl e ↦ ap (λ vs. list_any t (vs ++ ys)) (cond-true b (one ∷ w ∷ ws) (w ∷ stand one ws) e)
      | inr e ↦
          ap (λ vs. list_any t (vs ++ ys)) (cond-false b (one ∷ w ∷ ws) (w ∷ stand one ws) e)
          ∙ ap (λ k. t w || k) (any_stand t one ws ys) ∙ swapped (t w) (t one) (list_any t (ws ++ ys))
    ]

-- how often a process stands among them
times_front : (p : ℕ) (one : Waiting) (xs ys : List Waiting)
    → times_in p (waiter_numbers_of (xs ++ one ∷ ys)) ≡ times_in p (one.process ∷ []) + times_in p (waiter_numbers_of (xs ++ ys))
times_front p one [] ys = omega arith
times_front p one (x ∷ xs) ys = let rest = times_front p one xs ys in omega (arith, rest)

times_stand : (p : ℕ) (one : Waiting) (ws ys : List Waiting)
    → times_in p (waiter_numbers_of (stand one ws ++ ys)) ≡ times_in p (one.process ∷ []) + times_in p (waiter_numbers_of (ws ++ ys))
times_stand p one [] ys = omega arith
times_stand p one (w ∷ ws) ys =
    let b = ltb (rank_of one) (rank_of w) in
    elim (cases_Bool b) [
      | inl e ↦
          let is : times_in p (waiter_numbers_of (stand one (w ∷ ws) ++ ys)) ≡ times_in p (waiter_numbers_of (one ∷ w ∷ ws ++ ys)) = ap (λ vs. times_in p (waiter_numbers_of (vs ++ ys))) (cond-true b (one ∷ w ∷ ws) (w ∷ stand one ws) e) in
          omega (arith, is)
      | inr e ↦
          let is : times_in p (waiter_numbers_of (stand one (w ∷ ws) ++ ys)) ≡ times_in p (waiter_numbers_of (w ∷ stand one ws ++ ys)) = ap (λ vs. times_in p (waiter_numbers_of (vs ++ ys))) (cond-false b (one ∷ w ∷ ws) (w ∷ stand one ws) e) in
          let rest = times_stand p one ws ys in
          omega (arith, is, rest)
    ]

pub length_stand : (one : Waiting) (ws : List Waiting) → length (stand one ws) ≡ length ws + 1
length_stand one [] = refl
length_stand one (w ∷ ws) =
    let b = ltb (rank_of one) (rank_of w) in
    elim (cases_Bool b) [
      | inl e ↦ let is = ap length (cond-true b (one ∷ w ∷ ws) (w ∷ stand one ws) e) in omega (arith, is)
      | inr e ↦ let is = ap length (cond-false b (one ∷ w ∷ ws) (w ∷ stand one ws) e) in let rest = length_stand one ws in omega (arith, is, rest)
    ]

-- ---- each stands once

same_other : (w v : Waiting) → is_same w v ≡ false → is_same v w ≡ false
same_other w v h = false_from_ne_true (is_same v w) (λ k.
    let parts = and_parts (eqb v.process w.process) (stands_in v.queue v.place w) k in
    let equal : v ≡ w = waiting_same v w (eqb-true v.process w.process parts.0) parts.1 in
    both_ways (is_same w v) h (ap (λ u. is_same u v) (sym equal) ∙ ap (λ u. is_same v u) equal ∙ k))

-- who stands in the middle can stand in front
queued_front : (fs : List EventEntry) (n : ℕ) (one : Waiting) (xs ys : List Waiting) → AreQueued fs n (xs ++ one ∷ ys) → AreQueued fs n (one ∷ xs ++ ys)
queued_front fs n one [] ys h = h
queued_front fs n one (x ∷ xs) ys h =
    let rest = queued_front fs n one xs ys h.4 in
    let parts = or_parts (is_same x one) (stands_again x (xs ++ ys)) (sym (any_front (is_same x) one xs ys) ∙ h.3) in
    let again : stands_again one (x ∷ xs ++ ys) ≡ false = or_from (is_same one x) (stands_again one (xs ++ ys)) (same_other x one parts.0) rest.3 in
    (rest.0, rest.1, rest.2, again, (h.0, h.1, h.2, parts.1, rest.4))

queued_stand : (fs : List EventEntry) (n : ℕ) (one : Waiting) (ws ys : List Waiting) → AreQueued fs n (ws ++ one ∷ ys) → AreQueued fs n (stand one ws ++ ys)
queued_stand fs n one [] ys h = h
queued_stand fs n one (w ∷ ws) ys h =
    let b = ltb (rank_of one) (rank_of w) in
    elim (cases_Bool b) [
      | inl e ↦ subst (λ vs. AreQueued fs n (vs ++ ys)) (sym (cond-true b (one ∷ w ∷ ws) (w ∷ stand one ws) e)) (queued_front fs n one (w ∷ ws) ys h)
      | inr e ↦
          let again : stands_again w (stand one ws ++ ys) ≡ false = any_stand (is_same w) one ws ys ∙ sym (any_front (is_same w) one ws ys) ∙ h.3 in
          subst (λ vs. AreQueued fs n (vs ++ ys)) (sym (cond-false b (one ∷ w ∷ ws) (w ∷ stand one ws) e))
          (h.0, h.1, h.2, again, queued_stand fs n one ws ys h.4)
    ]

kept_stand_before : (fs : List EventEntry) (one : Waiting) (ws ys : List Waiting) (n capacity : ℕ) → IsKept fs (ws ++ one ∷ ys) n capacity
    → IsKept fs (stand one ws ++ ys) n capacity
kept_stand_before fs one ws ys n capacity k = record {
  room = k.room;
  queued = queued_stand fs n one ws ys k.queued;
  few = λ p. let here = times_stand p one ws ys in let there = times_front p one ws ys in let most = k.few p in omega (arith, here, there, most);
  within = k.within;
}

pub no_more : (ws : List Waiting) → ws ++ [] ≡ ws
no_more [] = refl
no_more (w ∷ ws) = ap (λ vs. w ∷ vs) (no_more ws)

-- who is put at its place is kept as one who comes after all
pub kept_stand : (fs : List EventEntry) (one : Waiting) (ws : List Waiting) (n capacity : ℕ) → IsKept fs (ws ++ one ∷ []) n capacity → IsKept fs (stand one ws) n capacity
kept_stand fs one ws n capacity k = subst (λ vs. IsKept fs vs n capacity) (no_more (stand one ws)) (kept_stand_before fs one ws [] n capacity k)

pub kept_stand_all : (fs : List EventEntry) (js ws : List Waiting) (n capacity : ℕ) → IsKept fs (ws ++ js) n capacity → IsKept fs (stand_all js ws) n capacity
kept_stand_all fs [] ws n capacity k = subst (λ vs. IsKept fs vs n capacity) (no_more ws) k
kept_stand_all fs (one ∷ js) ws n capacity k = kept_stand_all fs js (stand one ws) n capacity (kept_stand_before fs one ws js n capacity k)

-- ---- the lists of all events

pub listed_stand : (queue : Queue) (at : Place) (one : Waiting) (ws : List Waiting) → AreInOrder ws → waiters_listed queue at (stand one ws) ≡ waiters_listed queue at (ws ++ one ∷ [])
listed_stand queue at one ws h = ap (map (λ w. w.process)) (stand_listed queue at one ws h)

pub events_stand : (fs : List EventEntry) (one : Waiting) (ws : List Waiting) → AreInOrder ws → events_of fs (stand one ws) ≡ events_of fs (ws ++ one ∷ [])
events_stand fs one ws h = events_same (stand one ws) (ws ++ one ∷ []) (λ queue at. listed_stand queue at one ws h) fs

-- each is at a displacement that a stack has
abbrev pub AreLow : List Waiting → Type 0
AreLow [] = Unit {0}
AreLow (w ∷ ws) = (w.place.at < 65536) × AreLow ws

pub order_stand_all : (js ws : List Waiting) → AreLow js → AreInOrder ws → AreInOrder (stand_all js ws)
order_stand_all [] ws low h = h
order_stand_all (one ∷ js) ws low h = order_stand_all js (stand one ws) low.1 (order_stand one ws low.0 h)

filter_stand_all : (queue : Queue) (at : Place) (js ws : List Waiting) → AreLow js → AreInOrder ws
    → filter (stands_in queue at) (stand_all js ws) ≡ filter (stands_in queue at) (ws ++ js)
filter_stand_all queue at [] ws low h = ap (filter (stands_in queue at)) (sym (no_more ws))
filter_stand_all queue at (one ∷ js) ws low h =
    let t = stands_in queue at in
    filter_stand_all queue at js (stand one ws) low.1 (order_stand one ws low.0 h)
    ∙ filter-append t (stand one ws) js
    ∙ ap (λ vs. vs ++ filter t js) (stand_listed queue at one ws h)
    ∙ sym (filter-append t (ws ++ one ∷ []) js)
    ∙ ap (filter t) (append_assoc ws (one ∷ []) js)

pub events_stand_all : (fs : List EventEntry) (js ws : List Waiting) → AreLow js → AreInOrder ws → events_of fs (stand_all js ws) ≡ events_of fs (ws ++ js)
events_stand_all fs js ws low h =
    events_same (stand_all js ws) (ws ++ js) (λ queue at. ap (map (λ w. w.process)) (filter_stand_all queue at js ws low h)) fs

-- ---- who stands once is found once

pub once_queued : (fs : List EventEntry) (n : ℕ) (ws : List Waiting) → AreQueued fs n ws → StandOnce ws
once_queued fs n [] h = tt
once_queued fs n (w ∷ ws) h = (h.3, once_queued fs n ws h.4)

pub once_filter : (t : Waiting → Bool) (ws : List Waiting) → StandOnce ws → StandOnce (filter t ws)
once_filter t [] h = tt
once_filter t (w ∷ ws) h = elim (cases_Bool (t w)) [
  | inl e ↦ subst StandOnce (sym (cond-true (t w) (w ∷ filter t ws) (filter t ws) e)) (any_filter (is_same w) t ws h.0, once_filter t ws h.1)
  | inr e ↦ subst StandOnce (sym (cond-false (t w) (w ∷ filter t ws) (filter t ws) e)) (once_filter t ws h.1)
]

-- without the first who is the same as one, nobody is
pub first_is_filter : (one : Waiting) (ws : List Waiting) → StandOnce ws → without_first (is_same one) ws ≡ filter (λ w. not (is_same one w)) ws
first_is_filter one [] h = refl
first_is_filter one (w ∷ ws) h =
    let rest = filter (λ (v : Waiting). not (is_same one v)) ws in
    let b = is_same one w in
    elim (cases_Bool b) [
      | inl e ↦
          let parts = and_parts (eqb one.process w.process) (stands_in one.queue one.place w) e in
          let equal : one ≡ w = waiting_same one w (eqb-true one.process w.process parts.0) parts.1 in
          let none : list_any (is_same one) ws ≡ false = ap (λ u. list_any (is_same u) ws) equal ∙ h.0 in
          cond-true b ws (w ∷ without_first (is_same one) ws) e ∙ sym (cond-false (not b) (w ∷ rest) rest (not_from_true b e) ∙ all_stay ws none)
      | inr e ↦
          cond-false b ws (w ∷ without_first (is_same one) ws) e ∙ ap (λ vs. w ∷ vs) (first_is_filter one ws h.1)
          ∙ sym (cond-true (not b) (w ∷ rest) rest (not_from_false b e))
    ]
  where
    all_stay : (vs : List Waiting) → list_any (is_same one) vs ≡ false → filter (λ v. not (is_same one v)) vs ≡ vs
    all_stay [] k = refl
    all_stay (v ∷ vs) k =
        let parts = or_parts (is_same one v) (list_any (is_same one) vs) k in
        let more = filter (λ (u : Waiting). not (is_same one u)) vs in
        cond-true (not (is_same one v)) (v ∷ more) more (not_from_false (is_same one v) parts.0) ∙ ap (λ us. v ∷ us) (all_stay vs parts.1)
