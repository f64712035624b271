-- Those who wait, by their ranks: where they stand, and where nobody stands any more.
use Rattle.std.proofs.Common.{◌≡◌, ℕ, zero, suc, ◌+◌, ◌*◌, ◌<◌, ◌≤◌, Bool, true, false, cond, not, ◌&&◌, eqb, ltb, leb, List, [], ◌∷◌, ◌++◌, length, map, take, drop, get_or, refl, sym, ap, ◌∙◌, subst, inl, inr, arith}
use Rattle.std.specs.Prelude.{filter, insert}
use Rattle.std.specs.List.{AllByRecursion}
use Rattle.std.specs.List.Sorted.{IsNonDecreasingBy, IsPartitionPoint}
use Rattle.std.proofs.lemmas.Bool.{cases_Bool, cond-true, cond-false, and_parts, and_from, and_left, and_right, both_ways, false_from_ne_true, not_from_true, not_from_false, eq-eqb, eqb-true, ltb-true, ltb-false, lt-ltb, le-ltb, leb-true, le-leb, lt-leb}
use Rattle.std.proofs.lemmas.List.{drop_more}
use Rattle.std.proofs.lemmas.List.Elements.{filter-append}
use Rattle.b67_word.specs.declared.Place.{Place}
use Rattle.b67_events.specs.Events.{same_place, is_from}
use Rattle.b67_events.specs.Kept.{same_queue, stands_in, without_first, rank_in, rank_at, rank_of, AreInOrder, below, is_ranked, stand, stand_all}
use Rattle.b67_events.specs.declared.Queue.{Queue}
use Rattle.b67_events.specs.declared.Queue.TheVariants.{Waiters, Procurers}
use Rattle.b67_events.specs.declared.Waiting.{Waiting}
use Rattle.b67_events.proofs.Listed.{same_place_true, place_of, append_none}

-- ---- ranks

rank_small : (queue : Queue) → rank_in queue ≤ 1
rank_small Waiters = omega arith
rank_small Procurers = omega arith

queue_of_rank : (p q : Queue) → rank_in p ≡ rank_in q → same_queue p q ≡ true
queue_of_rank Waiters Waiters h = refl
queue_of_rank Waiters Procurers h = absurd (omega (arith, h))
queue_of_rank Procurers Waiters h = absurd (omega (arith, h))
queue_of_rank Procurers Procurers h = refl

pub rank_of_queue : (p q : Queue) → same_queue p q ≡ true → rank_in p ≡ rank_in q
rank_of_queue Waiters Waiters h = refl
rank_of_queue Waiters Procurers h = cc
rank_of_queue Procurers Waiters h = cc
rank_of_queue Procurers Procurers h = refl

-- who has the rank of a list stands in it
pub stands_by_rank : (queue : Queue) (at : Place) (w : Waiting) → at.at < 65536 → w.place.at < 65536 → rank_of w ≡ rank_at queue at → stands_in queue at w ≡ true
stands_by_rank queue at w low there h =
    let one = rank_small queue in
    let two = rank_small w.queue in
    let stack : at.stack ≡ w.place.stack = omega (arith, low, there, h, one, two) in
    let places : at.at ≡ w.place.at = omega (arith, low, there, h, one, two) in
    let last : rank_in queue ≡ rank_in w.queue = omega (arith, h, stack, places) in
    and_from (same_place at w.place) (same_queue queue w.queue)
    (and_from (eqb at.stack w.place.stack) (eqb at.at w.place.at) (eq-eqb at.stack w.place.stack stack) (eq-eqb at.at w.place.at places))
    (queue_of_rank queue w.queue last)

-- and who stands in a list has its rank
pub rank_by_stand : (queue : Queue) (at : Place) (w : Waiting) → stands_in queue at w ≡ true → rank_of w ≡ rank_at queue at
rank_by_stand queue at w h =
    let place : at ≡ w.place = place_of queue at w h in
    let kind : rank_in queue ≡ rank_in w.queue = rank_of_queue queue w.queue (and_parts (same_place at w.place) (same_queue queue w.queue) h).1 in
    ap (λ (p : Place). p.stack * 131072 + p.at * 2 + rank_in w.queue) (sym place) ∙ ap (λ k. at.stack * 131072 + at.at * 2 + k) (sym kind)

-- who has another rank does not
pub stands_not : (queue : Queue) (at : Place) (w : Waiting) → (rank_of w ≡ rank_at queue at → ⊥) → stands_in queue at w ≡ false
stands_not queue at w h = false_from_ne_true (stands_in queue at w) (λ k. h (rank_by_stand queue at w k))

-- ---- lists in order

abbrev pub from_rank : ℕ → List Waiting → Type 0
from_rank r ws = AllByRecursion (λ v. r ≤ rank_of v) ws

pub rank_more : (r s : ℕ) → r ≤ s → (ws : List Waiting) → from_rank s ws → from_rank r ws
rank_more r s le [] h = tt
rank_more r s le (w ∷ ws) h = let here : s ≤ rank_of w = h.0 in (omega (arith, le, here), rank_more r s le ws h.1)

from_filter : (r : ℕ) (t : Waiting → Bool) (ws : List Waiting) → from_rank r ws → from_rank r (filter t ws)
from_filter r t [] h = tt
from_filter r t (w ∷ ws) h = elim (cases_Bool (t w)) [
  | inl e ↦ subst (from_rank r) (sym (cond-true (t w) (w ∷ filter t ws) (filter t ws) e)) (h.0, from_filter r t ws h.1)
  | inr e ↦ subst (from_rank r) (sym (cond-false (t w) (w ∷ filter t ws) (filter t ws) e)) (from_filter r t ws h.1)
]

pub order_filter : (t : Waiting → Bool) (ws : List Waiting) → AreInOrder ws → AreInOrder (filter t ws)
order_filter t [] h = tt
order_filter t (w ∷ ws) h = elim (cases_Bool (t w)) [
  | inl e ↦ subst AreInOrder (sym (cond-true (t w) (w ∷ filter t ws) (filter t ws) e)) (h.0, from_filter (rank_of w) t ws h.1, order_filter t ws h.2)
  | inr e ↦ subst AreInOrder (sym (cond-false (t w) (w ∷ filter t ws) (filter t ws) e)) (order_filter t ws h.2)
]

from_first : (r : ℕ) (t : Waiting → Bool) (ws : List Waiting) → from_rank r ws → from_rank r (without_first t ws)
from_first r t [] h = tt
from_first r t (w ∷ ws) h = elim (cases_Bool (t w)) [
  | inl e ↦ subst (from_rank r) (sym (cond-true (t w) ws (w ∷ without_first t ws) e)) h.1
  | inr e ↦ subst (from_rank r) (sym (cond-false (t w) ws (w ∷ without_first t ws) e)) (h.0, from_first r t ws h.1)
]

pub order_first : (t : Waiting → Bool) (ws : List Waiting) → AreInOrder ws → AreInOrder (without_first t ws)
order_first t [] h = tt
order_first t (w ∷ ws) h = elim (cases_Bool (t w)) [
  | inl e ↦ subst AreInOrder (sym (cond-true (t w) ws (w ∷ without_first t ws) e)) h.2
  | inr e ↦ subst AreInOrder (sym (cond-false (t w) ws (w ∷ without_first t ws) e)) (h.0, from_first (rank_of w) t ws h.1, order_first t ws h.2)
]

from_stand : (r : ℕ) (one : Waiting) (ws : List Waiting) → r ≤ rank_of one → from_rank r ws → from_rank r (stand one ws)
from_stand r one [] k h = (k, tt)
from_stand r one (w ∷ ws) k h =
    let b = ltb (rank_of one) (rank_of w) in
    elim (cases_Bool b) [
      | inl e ↦ subst (from_rank r) (sym (cond-true b (one ∷ w ∷ ws) (w ∷ stand one ws) e)) (k, h)
      | inr e ↦ subst (from_rank r) (sym (cond-false b (one ∷ w ∷ ws) (w ∷ stand one ws) e)) (h.0, from_stand r one ws k h.1)
    ]

pub order_stand : (one : Waiting) (ws : List Waiting) → one.place.at < 65536 → AreInOrder ws → AreInOrder (stand one ws)
order_stand one [] low h = (low, tt, tt)
order_stand one (w ∷ ws) low h =
    let b = ltb (rank_of one) (rank_of w) in
    elim (cases_Bool b) [
      | inl e ↦
          let less = ltb-true (rank_of one) (rank_of w) e in
          let le : rank_of one ≤ rank_of w = omega (arith, less) in
          subst AreInOrder (sym (cond-true b (one ∷ w ∷ ws) (w ∷ stand one ws) e)) (low, (le, rank_more (rank_of one) (rank_of w) le ws h.1), h)
      | inr e ↦
          subst AreInOrder (sym (cond-false b (one ∷ w ∷ ws) (w ∷ stand one ws) e))
          (h.0, from_stand (rank_of w) one ws (ltb-false (rank_of one) (rank_of w) e) h.1, order_stand one ws low h.2)
    ]

pub order_drop : (i : ℕ) (ws : List Waiting) → AreInOrder ws → AreInOrder (drop i ws)
order_drop zero ws h = h
order_drop (suc i) [] h = tt
order_drop (suc i) (w ∷ ws) h = order_drop i ws h.2

-- who stands at a position has no higher rank than who comes after
pub at_least : (r : ℕ) (ws : List Waiting) (j : ℕ) (d : Waiting) → from_rank r ws → j < length ws → r ≤ rank_of (get_or ws j d)
at_least r [] j d h k = absurd (omega (arith, k))
at_least r (w ∷ ws) zero d h k = h.0
at_least r (w ∷ ws) (suc j) d h k = at_least r ws j d h.1 (omega (arith, k))

pub rising : (ws : List Waiting) → AreInOrder ws → IsNonDecreasingBy rank_of ws
rising [] h i j d le less = absurd (omega (arith, less))
rising (w ∷ ws) h zero zero d le less = omega arith
rising (w ∷ ws) h zero (suc j) d le less = at_least (rank_of w) ws j d h.1 (omega (arith, less))
rising (w ∷ ws) h (suc i) zero d le less = absurd (omega (arith, le))
rising (w ∷ ws) h (suc i) (suc j) d le less = rising ws h.2 i j d (omega (arith, le)) (omega (arith, less))

-- ---- how many stand below a rank

pub below_yes : (r : ℕ) (w : Waiting) (ws : List Waiting) → rank_of w < r → below r (w ∷ ws) ≡ suc (below r ws)
below_yes r w ws h = cond-true (ltb (rank_of w) r) (suc (below r ws)) 0 (lt-ltb (rank_of w) r h)

pub below_no : (r : ℕ) (w : Waiting) (ws : List Waiting) → r ≤ rank_of w → below r (w ∷ ws) ≡ 0
below_no r w ws h = cond-false (ltb (rank_of w) r) (suc (below r ws)) 0 (le-ltb (rank_of w) r h)

abbrev IsPoint : ℕ → List Waiting → ℕ → Type 0
IsPoint r ws i = IsPartitionPoint (λ y. ltb (rank_of y) r ≡ true) (λ y. ltb (rank_of y) r ≡ false) ws i

pub below_point : (r : ℕ) (ws : List Waiting) (i : ℕ) → i ≤ length ws → IsPoint r ws i → i ≡ below r ws
below_point r [] zero le h = refl
below_point r [] (suc i) le h = absurd (omega (arith, le))
below_point r (w ∷ ws) zero le h = sym (below_no r w ws (ltb-false (rank_of w) r (h.1 zero w (omega arith) (omega arith))))
below_point r (w ∷ ws) (suc i) le h =
    let here = ltb-true (rank_of w) r (h.0 zero w (omega arith) (omega arith)) in
    let rest = below_point r ws i (omega (arith, le)) (λ k d a b. h.0 (suc k) d (omega (arith, a)) (omega (arith, b)), λ k d a b. h.1 (suc k) d (omega (arith, a)) (omega (arith, b))) in
    ap suc rest ∙ sym (below_yes r w ws here)

pub below_within : (r : ℕ) (ws : List Waiting) → below r ws ≤ length ws
below_within r [] = omega arith
below_within r (w ∷ ws) = elim (cases_Bool (ltb (rank_of w) r)) [
  | inl e ↦ let is = below_yes r w ws (ltb-true (rank_of w) r e) in let rest = below_within r ws in omega (arith, is, rest)
  | inr e ↦ let is = below_no r w ws (ltb-false (rank_of w) r e) in omega (arith, is)
]

-- those below a rank are those below a lower one, and then more
pub below_more : (f r : ℕ) (ws : List Waiting) → f ≤ r → below f ws + below r (drop (below f ws) ws) ≡ below r ws
below_more f r [] le = refl
below_more f r (w ∷ ws) le = elim (cases_Bool (ltb (rank_of w) f)) [
  | inl e ↦
      let less = ltb-true (rank_of w) f e in
      let is = below_yes f w ws less in
      let rest = below_more f r ws le in
      let more = below_yes r w ws (omega (arith, less, le)) in
      let there : below r (drop (below f (w ∷ ws)) (w ∷ ws)) ≡ below r (drop (below f ws) ws) = ap (λ i. below r (drop i (w ∷ ws))) is in
      omega (arith, is, rest, more, there)
  | inr e ↦
      let none = below_no f w ws (ltb-false (rank_of w) f e) in
      let there : below r (drop (below f (w ∷ ws)) (w ∷ ws)) ≡ below r (w ∷ ws) = ap (λ i. below r (drop i (w ∷ ws))) none in
      omega (arith, none, there)
]

module _ (r i : ℕ) (ws : List Waiting) (x : Waiting) (short : i < length ws) (is : x ≡ get_or ws i x) where
  pub next_is : drop i ws ≡ x ∷ drop (i + 1) ws
  next_is = drop_more ws i x short ∙ ap (λ y. y ∷ drop (i + 1) ws) (sym is)

pub below_past : (r i : ℕ) (ws : List Waiting) → length ws ≤ i → below r (drop i ws) ≡ 0
below_past r zero [] h = refl
below_past r (suc i) [] h = refl
below_past r zero (w ∷ ws) h = absurd (omega (arith, h))
below_past r (suc i) (w ∷ ws) h = below_past r i ws (omega (arith, h))

-- from there on nobody stands below the rank
pub below_rest : (r i : ℕ) (ws : List Waiting) → AreInOrder ws → below r ws ≤ i → from_rank r (drop i ws)
below_rest r zero [] h le = tt
below_rest r (suc i) [] h le = tt
below_rest r zero (w ∷ ws) h le =
    let high : r ≤ rank_of w = elim (cases_Bool (ltb (rank_of w) r)) [
      | inl e ↦ let is = below_yes r w ws (ltb-true (rank_of w) r e) in absurd (omega (arith, is, le))
      | inr e ↦ ltb-false (rank_of w) r e
    ] in
    (high, rank_more r (rank_of w) high ws h.1)
below_rest r (suc i) (w ∷ ws) h le = elim (cases_Bool (ltb (rank_of w) r)) [
  | inl e ↦ let is = below_yes r w ws (ltb-true (rank_of w) r e) in below_rest r i ws h.2 (omega (arith, is, le))
  | inr e ↦ let high = ltb-false (rank_of w) r e in from-drop r i ws (rank_more r (rank_of w) high ws h.1)
]
  where
    from-drop : (r i : ℕ) (ws : List Waiting) → from_rank r ws → from_rank r (drop i ws)
    from-drop r zero ws h = h
    from-drop r (suc i) [] h = tt
    from-drop r (suc i) (w ∷ ws) h = from-drop r i ws h.1

-- ---- one who is put at its place

pub insert_stand : (one : Waiting) (ws : List Waiting) → insert ws (below (rank_of one + 1) ws) one ≡ stand one ws
insert_stand one [] = refl
insert_stand one (w ∷ ws) =
    let b = ltb (rank_of one) (rank_of w) in
    let r = rank_of one + 1 in
    elim (cases_Bool b) [
      | inl e ↦
          let less = ltb-true (rank_of one) (rank_of w) e in
          ap (λ i. insert (w ∷ ws) i one) (below_no r w ws (omega (arith, less))) ∙ sym (cond-true b (one ∷ w ∷ ws) (w ∷ stand one ws) e)
      | inr e ↦
          let le = ltb-false (rank_of one) (rank_of w) e in
          ap (λ i. insert (w ∷ ws) i one) (below_yes r w ws (omega (arith, le))) ∙ ap (λ vs. w ∷ vs) (insert_stand one ws)
          ∙ sym (cond-false b (one ∷ w ∷ ws) (w ∷ stand one ws) e)
    ]

-- nobody of a higher rank stands in a list
pub none_higher : (queue : Queue) (at : Place) (ws : List Waiting) → from_rank (rank_at queue at + 1) ws → filter (stands_in queue at) ws ≡ []
none_higher queue at [] h = refl
none_higher queue at (w ∷ ws) h =
    let high : rank_at queue at + 1 ≤ rank_of w = h.0 in
    cond-false (stands_in queue at w) (w ∷ filter (stands_in queue at) ws) (filter (stands_in queue at) ws) (stands_not queue at w (λ e. omega (arith, high, e)))
    ∙ none_higher queue at ws h.1

-- each list is as if it came after all
pub stand_listed : (queue : Queue) (at : Place) (one : Waiting) (ws : List Waiting) → AreInOrder ws
    → filter (stands_in queue at) (stand one ws) ≡ filter (stands_in queue at) (ws ++ one ∷ [])
stand_listed queue at one [] h = refl
stand_listed queue at one (w ∷ ws) h =
    let b = ltb (rank_of one) (rank_of w) in
    let t = stands_in queue at in
    elim (cases_Bool b) [
      | inl e ↦
          let less = ltb-true (rank_of one) (rank_of w) e in
          ap (filter t) (cond-true b (one ∷ w ∷ ws) (w ∷ stand one ws) e)
          ∙ elim (cases_Bool (t one)) [
            | inl k ↦
                let same = rank_by_stand queue at one k in
                let high : rank_at queue at + 1 ≤ rank_of w = omega (arith, less, same) in
                let none : filter t (w ∷ ws) ≡ [] = none_higher queue at (w ∷ ws) (high, rank_more (rank_at queue at + 1) (rank_of w) high ws h.1) in
                cond-true (t one) (one ∷ filter t (w ∷ ws)) (filter t (w ∷ ws)) k ∙ ap (λ vs. one ∷ vs) none
                ∙ sym (filter-append t (w ∷ ws) (one ∷ []) ∙ ap (λ vs. vs ++ filter t (one ∷ [])) none ∙ cond-true (t one) (one ∷ []) [] k)
            | inr k ↦
                cond-false (t one) (one ∷ filter t (w ∷ ws)) (filter t (w ∷ ws)) k
                ∙ sym (filter-append t (w ∷ ws) (one ∷ []) ∙ ap (λ vs. filter t (w ∷ ws) ++ vs) (cond-false (t one) (one ∷ []) [] k) ∙ append_none (filter t (w ∷ ws)))
          ]
      | inr e ↦
          ap (filter t) (cond-false b (one ∷ w ∷ ws) (w ∷ stand one ws) e) ∙ ap (λ vs. cond (t w) (w ∷ vs) vs) (stand_listed queue at one ws h.2)
    ]

-- ---- the list of an event, found by its rank

-- nobody before its rank stands in it
pub listed_from : (queue : Queue) (at : Place) (ws : List Waiting)
    → filter (stands_in queue at) (drop (below (rank_at queue at) ws) ws) ≡ filter (stands_in queue at) ws
listed_from queue at [] = refl
listed_from queue at (w ∷ ws) =
    let r = rank_at queue at in
    let t = stands_in queue at in
    elim (cases_Bool (ltb (rank_of w) r)) [
      | inl e ↦
          let less = ltb-true (rank_of w) r e in
          ap (λ i. filter t (drop i (w ∷ ws))) (below_yes r w ws less) ∙ listed_from queue at ws
          ∙ sym (cond-false (t w) (w ∷ filter t ws) (filter t ws) (stands_not queue at w (λ k. omega (arith, less, k))))
      | inr e ↦ ap (λ i. filter t (drop i (w ∷ ws))) (below_no r w ws (ltb-false (rank_of w) r e))
    ]

pub first_from : (u : Waiting → Bool) (r : ℕ) → ((w : Waiting) → u w ≡ true → rank_of w ≡ r) → (ws : List Waiting)
    → without_first u ws ≡ take (below r ws) ws ++ without_first u (drop (below r ws) ws)
first_from u r ranked [] = refl
first_from u r ranked (w ∷ ws) = elim (cases_Bool (ltb (rank_of w) r)) [
  | inl e ↦
      let less = ltb-true (rank_of w) r e in
      let no : u w ≡ false = false_from_ne_true (u w) (λ k. let same = ranked w k in omega (arith, less, same)) in
      cond-false (u w) ws (w ∷ without_first u ws) no ∙ ap (λ vs. w ∷ vs) (first_from u r ranked ws)
      ∙ sym (ap (λ i. take i (w ∷ ws) ++ without_first u (drop i (w ∷ ws))) (below_yes r w ws less))
  | inr e ↦ sym (ap (λ i. take i (w ∷ ws) ++ without_first u (drop i (w ∷ ws))) (below_no r w ws (ltb-false (rank_of w) r e)))
]

pub none_first : (u : Waiting → Bool) (r : ℕ) → ((w : Waiting) → u w ≡ true → rank_of w ≡ r) → (ws : List Waiting) → from_rank (r + 1) ws → without_first u ws ≡ ws
none_first u r ranked [] h = refl
none_first u r ranked (w ∷ ws) h =
    let high : r + 1 ≤ rank_of w = h.0 in
    cond-false (u w) ws (w ∷ without_first u ws) (false_from_ne_true (u w) (λ k. let same = ranked w k in omega (arith, high, same)))
    ∙ ap (λ vs. w ∷ vs) (none_first u r ranked ws h.1)

-- where one who stands at its rank or above does not stand in it, nobody does from there on
pub none_from : (queue : Queue) (at : Place) (i : ℕ) (ws : List Waiting) (x : Waiting) → at.at < 65536 → AreInOrder ws → below (rank_at queue at) ws ≤ i
    → i < length ws → x ≡ get_or ws i x → stands_in queue at x ≡ false → from_rank (rank_at queue at + 1) (drop i ws)
none_from queue at i ws x low h from short is out =
    let r = rank_at queue at in
    let here : drop i ws ≡ x ∷ drop (i + 1) ws = next_is r i ws x short is in
    let high : from_rank r (x ∷ drop (i + 1) ws) = subst (from_rank r) here (below_rest r i ws h from) in
    let order : AreInOrder (x ∷ drop (i + 1) ws) = subst AreInOrder here (order_drop i ws h) in
    let least : r ≤ rank_of x = high.0 in
    let other : rank_of x ≡ r → ⊥ = λ e. both_ways (stands_in queue at x) out (stands_by_rank queue at x low order.0 e) in
    let more : r + 1 ≤ rank_of x = omega (arith, least, other) in
    subst (from_rank (r + 1)) (sym here) (more, rank_more (r + 1) (rank_of x) more (drop (i + 1) ws) order.1)

-- ---- those between two ranks

kept_low : (f r : ℕ) (w : Waiting) → rank_of w < f → not (is_ranked f r w) ≡ true
kept_low f r w h = not_from_false (is_ranked f r w) (and_left (leb f (rank_of w)) (ltb (rank_of w) r) (lt-leb f (rank_of w) h))

kept_high : (f r : ℕ) (w : Waiting) → r ≤ rank_of w → not (is_ranked f r w) ≡ true
kept_high f r w h = not_from_false (is_ranked f r w) (and_right (leb f (rank_of w)) (ltb (rank_of w) r) (le-ltb (rank_of w) r h))

all_kept : (f r : ℕ) (ws : List Waiting) → from_rank r ws → filter (λ w. not (is_ranked f r w)) ws ≡ ws
all_kept f r [] h = refl
all_kept f r (w ∷ ws) h =
    let rest = filter (λ (v : Waiting). not (is_ranked f r v)) ws in
    cond-true (not (is_ranked f r w)) (w ∷ rest) rest (kept_high f r w h.0) ∙ ap (λ vs. w ∷ vs) (all_kept f r ws h.1)

below_none : (f : ℕ) (ws : List Waiting) → from_rank f ws → below f ws ≡ 0
below_none f [] h = refl
below_none f (w ∷ ws) h = below_no f w ws h.0

-- without those who stand from a rank on, and below another
pub cut_is : (f r : ℕ) (ws : List Waiting) → f ≤ r → AreInOrder ws
    → filter (λ w. not (is_ranked f r w)) ws ≡ take (below f ws) ws ++ drop (below r ws) ws
cut_is f r [] le h = refl
cut_is f r (w ∷ ws) le h =
    let goes = is_ranked f r w in
    let rest = filter (λ (v : Waiting). not (is_ranked f r v)) ws in
    elim (cases_Bool (ltb (rank_of w) f)) [
      | inl e ↦
          let less = ltb-true (rank_of w) f e in
          cond-true (not goes) (w ∷ rest) rest (kept_low f r w less) ∙ ap (λ vs. w ∷ vs) (cut_is f r ws le h.2)
          ∙ sym (ap (λ i. take i (w ∷ ws) ++ drop (below r (w ∷ ws)) (w ∷ ws)) (below_yes f w ws less)
          ∙ ap (λ i. w ∷ take (below f ws) ws ++ drop i (w ∷ ws)) (below_yes r w ws (omega (arith, less, le))))
      | inr e ↦
          let high = ltb-false (rank_of w) f e in
          let none : below f (w ∷ ws) ≡ 0 = below_no f w ws high in
          sym (ap (λ i. take i (w ∷ ws) ++ drop (below r (w ∷ ws)) (w ∷ ws)) none
          ∙ elim (cases_Bool (ltb (rank_of w) r)) [
            | inl k ↦
                let less = ltb-true (rank_of w) r k in
                let gone : not goes ≡ false = not_from_true goes (and_from (leb f (rank_of w)) (ltb (rank_of w) r) (le-leb f (rank_of w) high) k) in
                ap (λ i. drop i (w ∷ ws)) (below_yes r w ws less)
                ∙ sym (cond-false (not goes) (w ∷ rest) rest gone ∙ cut_is f r ws le h.2
                ∙ ap (λ i. take i ws ++ drop (below r ws) ws) (below_none f ws (rank_more f (rank_of w) high ws h.1)))
            | inr k ↦
                let above = ltb-false (rank_of w) r k in
                ap (λ i. drop i (w ∷ ws)) (below_no r w ws above)
                ∙ sym (all_kept f r (w ∷ ws) (above, rank_more r (rank_of w) above ws h.1))
          ])
    ]

-- tests that are alike of all in order keep the same
pub filter_low : (a b : Waiting → Bool) → ((w : Waiting) → w.place.at < 65536 → a w ≡ b w) → (ws : List Waiting) → AreInOrder ws → filter a ws ≡ filter b ws
filter_low a b same [] h = refl
filter_low a b same (w ∷ ws) h =
    ap (λ t. cond t (w ∷ filter a ws) (filter a ws)) (same w h.0) ∙ ap (λ vs. cond (b w) (w ∷ vs) vs) (filter_low a b same ws h.2)

-- ---- which ranks an event has, and those of a stack from a displacement on

alike : (a b : Bool) → (a ≡ true → b ≡ true) → (b ≡ true → a ≡ true) → a ≡ b
alike true true f g = refl
alike true false f g = sym (f refl)
alike false true f g = g refl
alike false false f g = refl

ranked_parts : (f r : ℕ) (w : Waiting) → is_ranked f r w ≡ true → (f ≤ rank_of w) × (rank_of w < r)
ranked_parts f r w h =
    let parts = and_parts (leb f (rank_of w)) (ltb (rank_of w) r) h in
    (leb-true f (rank_of w) parts.0, ltb-true (rank_of w) r parts.1)

ranked_from : (f r : ℕ) (w : Waiting) → f ≤ rank_of w → rank_of w < r → is_ranked f r w ≡ true
ranked_from f r w a b = and_from (leb f (rank_of w)) (ltb (rank_of w) r) (le-leb f (rank_of w) a) (lt-ltb (rank_of w) r b)

pub ranks_of_list : (at : Place) (w : Waiting) → at.at < 65536 → w.place.at < 65536
    → is_ranked (rank_at Waiters at) (rank_at Waiters at + 1) w ≡ stands_in Waiters at w
ranks_of_list at w low there =
    let r = rank_at Waiters at in
    alike (is_ranked r (r + 1) w) (stands_in Waiters at w)
    (λ h. let parts = ranked_parts r (r + 1) w h in stands_by_rank Waiters at w low there (omega (arith, parts.0, parts.1)))
    (λ h. let same = rank_by_stand Waiters at w h in ranked_from r (r + 1) w (omega (arith, same)) (omega (arith, same)))

pub ranks_of_place : (at : Place) (w : Waiting) → at.at < 65536 → w.place.at < 65536
    → is_ranked (rank_at Waiters at) (rank_at Waiters at + 2) w ≡ same_place w.place at
ranks_of_place at w low there =
    let r = rank_at Waiters at in
    let small = rank_small w.queue in
    alike (is_ranked r (r + 2) w) (same_place w.place at)
    (λ h.
    let parts = ranked_parts r (r + 2) w h in
    let stack : w.place.stack ≡ at.stack = omega (arith, low, there, parts.0, parts.1, small) in
    let places : w.place.at ≡ at.at = omega (arith, low, there, parts.0, parts.1, small) in
    and_from (eqb w.place.stack at.stack) (eqb w.place.at at.at) (eq-eqb w.place.stack at.stack stack) (eq-eqb w.place.at at.at places))
    (λ h.
    let same = same_place_true w.place at h in
    let stack : w.place.stack ≡ at.stack = ap (λ (p : Place). p.stack) same in
    let places : w.place.at ≡ at.at = ap (λ (p : Place). p.at) same in
    ranked_from r (r + 2) w (omega (arith, stack, places)) (omega (arith, stack, places, small)))

pub ranks_of_stack : (stack at : ℕ) (w : Waiting) → at < 65536 → w.place.at < 65536
    → is_ranked (stack * 131072 + at * 2 + 0) ((stack + 1) * 131072) w ≡ is_from stack at w.place
ranks_of_stack stack at w low there =
    let f = stack * 131072 + at * 2 + 0 in
    let r = (stack + 1) * 131072 in
    let small = rank_small w.queue in
    alike (is_ranked f r w) (is_from stack at w.place)
    (λ h.
    let parts = ranked_parts f r w h in
    let same : w.place.stack ≡ stack = omega (arith, low, there, parts.0, parts.1, small) in
    let above : at ≤ w.place.at = omega (arith, low, there, parts.0, parts.1, small, same) in
    and_from (eqb w.place.stack stack) (leb at w.place.at) (eq-eqb w.place.stack stack same) (le-leb at w.place.at above))
    (λ h.
    let parts = and_parts (eqb w.place.stack stack) (leb at w.place.at) h in
    let same = eqb-true w.place.stack stack parts.0 in
    let above = leb-true at w.place.at parts.1 in
    ranked_from f r w (omega (arith, same, above)) (omega (arith, same, there, small)))

-- no displacement of a stack is as high
pub none_as_high : (stack at : ℕ) (ws : List Waiting) → 65536 ≤ at → AreInOrder ws → filter (λ w. not (is_from stack at w.place)) ws ≡ ws
none_as_high stack at [] high h = refl
none_as_high stack at (w ∷ ws) high h =
    let rest = filter (λ (v : Waiting). not (is_from stack at v.place)) ws in
    let low : w.place.at < 65536 = h.0 in
    cond-true (not (is_from stack at w.place)) (w ∷ rest) rest
    (not_from_false (is_from stack at w.place) (and_right (eqb w.place.stack stack) (leb at w.place.at) (lt-leb at w.place.at (omega (arith, low, high)))))
    ∙ ap (λ vs. w ∷ vs) (none_as_high stack at ws high h.2)

-- ---- the last of those that go is taken out

pub length_taken : (k : ℕ) (xs ys : List Waiting) → k ≤ length xs → k ≤ length (take k xs ++ ys)
length_taken zero xs ys h = omega arith
length_taken (suc k) [] ys h = absurd (omega (arith, h))
length_taken (suc k) (x ∷ xs) ys h = let rest = length_taken k xs ys (omega (arith, h)) in omega (arith, rest)

pub from_past : (r i : ℕ) (ws : List Waiting) → length ws ≤ i → from_rank r (drop i ws)
from_past r zero [] h = tt
from_past r (suc i) [] h = tt
from_past r zero (w ∷ ws) h = absurd (omega (arith, h))
from_past r (suc i) (w ∷ ws) h = from_past r i ws (omega (arith, h))
