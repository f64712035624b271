-- Each process that waits is known, stands once in each of its lists, and waits for events that are open.
use Rattle.std.proofs.Common.{◌≡◌, ℕ, ◌+◌, ◌≤◌, Bool, true, false, cond, ◌&&◌, ◌||◌, eqb, List, [], ◌∷◌, ◌++◌, length, map, refl, sym, ap, ◌∙◌, subst, inl, inr, arith}
use Rattle.std.specs.Prelude.{filter}
use Rattle.std.specs.List.{list_any}
use Rattle.std.proofs.lemmas.Bool.{cases_Bool, cond-true, cond-false, and_parts, and_from, and_left, both_ways, false_from_ne_true, eqb-true, eq-eqb, or_cases, or_parts, or_from, or_left, or_right}
use Rattle.std.proofs.lemmas.List.Folds.{list_any-append}
use Rattle.b67_word.specs.declared.Place.{Place}
use Rattle.b67_events.specs.Events.{same_place, is_before, is_waiting}
use Rattle.b67_events.specs.Kept.{same_queue, stands_in, waiters_listed, EventEntry, events_of, has_flags, set_flags, event_put, without_first, among, is_same, stands_again, AreQueued, waiter_numbers_of}
use Rattle.b67_events.specs.Once.{times_in}
use Rattle.b67_events.specs.declared.Flags.{Flags}
use Rattle.b67_events.specs.declared.Queue.{Queue}
use Rattle.b67_events.specs.declared.Queue.TheVariants.{Waiters, Procurers}
use Rattle.b67_events.specs.declared.Waiting.{Waiting}
use Rattle.b67_events.proofs.Listed.{same_place_true, same_place_self}
use Rattle.b67_events.proofs.Numbers.{one_if, AreFrom, times_none, times_bound}

module _ {X : Type 0} where
  pub any_filter : (t r : X → Bool) (xs : List X) → list_any t xs ≡ false → list_any t (filter r xs) ≡ false
  any_filter t r [] h = refl
  any_filter t r (x ∷ xs) h =
      let parts = or_parts (t x) (list_any t xs) h in
      elim (cases_Bool (r x)) [
        | inl e ↦ ap (list_any t) (cond-true (r x) (x ∷ filter r xs) (filter r xs) e) ∙ or_from (t x) (list_any t (filter r xs)) parts.0 (any_filter t r xs parts.1)
        | inr e ↦ ap (list_any t) (cond-false (r x) (x ∷ filter r xs) (filter r xs) e) ∙ any_filter t r xs parts.1
      ]

  pub any_first : (t u : X → Bool) (xs : List X) → list_any t xs ≡ false → list_any t (without_first u xs) ≡ false
  any_first t u [] h = refl
  any_first t u (x ∷ xs) h =
      let parts = or_parts (t x) (list_any t xs) h in
      elim (cases_Bool (u x)) [
        | inl e ↦ ap (list_any t) (cond-true (u x) xs (x ∷ without_first u xs) e) ∙ parts.1
        | inr e ↦
            ap (list_any t) (cond-false (u x) xs (x ∷ without_first u xs) e)
            ∙ or_from (t x) (list_any t (without_first u xs)) parts.0 (any_first t u xs parts.1)
      ]

-- some who wait go, and the events that the others wait for stay open
pub queued_filter : (fs gs : List EventEntry) (n : ℕ) (r : Waiting → Bool)
    → ((w : Waiting) → r w ≡ true → has_flags w.place fs ≡ true → has_flags w.place gs ≡ true)
    → (ws : List Waiting) → AreQueued fs n ws → AreQueued gs n (filter r ws)
queued_filter fs gs n r stays [] h = tt
queued_filter fs gs n r stays (w ∷ ws) h =
    let rest = queued_filter fs gs n r stays ws h.4 in
    elim (cases_Bool (r w)) [
      | inl e ↦
          subst (AreQueued gs n) (sym (cond-true (r w) (w ∷ filter r ws) (filter r ws) e))
          (h.0, h.1, stays w e h.2, any_filter (is_same w) r ws h.3, rest)
      | inr e ↦ subst (AreQueued gs n) (sym (cond-false (r w) (w ∷ filter r ws) (filter r ws) e)) rest
    ]

pub queued_flags : (fs gs : List EventEntry) (n : ℕ) → ((at : Place) → has_flags at fs ≡ true → has_flags at gs ≡ true)
    → (ws : List Waiting) → AreQueued fs n ws → AreQueued gs n ws
queued_flags fs gs n stays [] h = tt
queued_flags fs gs n stays (w ∷ ws) h = (h.0, h.1, stays w.place h.2, h.3, queued_flags fs gs n stays ws h.4)

pub queued_first : (fs gs : List EventEntry) (n : ℕ) (u : Waiting → Bool)
    → ((at : Place) → has_flags at fs ≡ true → has_flags at gs ≡ true)
    → (ws : List Waiting) → AreQueued fs n ws → AreQueued gs n (without_first u ws)
queued_first fs gs n u stays [] h = tt
queued_first fs gs n u stays (w ∷ ws) h = elim (cases_Bool (u w)) [
  | inl e ↦ subst (AreQueued gs n) (sym (cond-true (u w) ws (w ∷ without_first u ws) e)) (queued_flags fs gs n stays ws h.4)
  | inr e ↦
      subst (AreQueued gs n) (sym (cond-false (u w) ws (w ∷ without_first u ws) e))
      (h.0, h.1, stays w.place h.2, any_first (is_same w) u ws h.3, queued_first fs gs n u stays ws h.4)
]

-- one more waits, who does not stand there yet
pub queued_push : (fs : List EventEntry) (n : ℕ) (w : Waiting) → 1 ≤ w.process → w.process ≤ n → has_flags w.place fs ≡ true
    → (ws : List Waiting) → list_any (λ v. is_same v w) ws ≡ false → AreQueued fs n ws → AreQueued fs n (ws ++ w ∷ [])
queued_push fs n w low high stays [] idle h = (low, high, stays, refl, tt)
queued_push fs n w low high stays (v ∷ ws) idle h =
    let parts = or_parts (is_same v w) (list_any (λ u. is_same u w) ws) idle in
    let once : stands_again v (ws ++ w ∷ []) ≡ false =
    list_any-append (is_same v) ws (w ∷ [])
    ∙ or_from (stands_again v ws) (stands_again v (w ∷ [])) h.3 (or_from (is_same v w) false parts.0 refl) in
    (h.0, h.1, h.2, once, queued_push fs n w low high stays ws parts.1 h.4)

-- who is not among those who wait does not stand there
pub apart_none : (w : Waiting) (ws : List Waiting) → among w.process ws ≡ false → list_any (λ v. is_same v w) ws ≡ false
apart_none w [] h = refl
apart_none w (v ∷ ws) h =
    let parts = or_parts (eqb w.process v.process) (among w.process ws) h in
    let other : eqb v.process w.process ≡ false = false_from_ne_true (eqb v.process w.process) (λ k. both_ways (eqb w.process v.process) parts.0 (eq-eqb w.process v.process (sym (eqb-true v.process w.process k)))) in
    or_from (is_same v w) (list_any (λ u. is_same u w) ws) (and_left (eqb v.process w.process) (stands_in v.queue v.place w) other) (apart_none w ws parts.1)

pub among_none : (p : ℕ) (ws : List Waiting) → among p ws ≡ false → times_in p (waiter_numbers_of ws) ≡ 0
among_none p ws h = times_none (λ w. w.process) p ws h

-- flags that are set, and events that are closed elsewhere, leave events open
pub open-set : (at : Place) (change : Flags → Flags) (fs : List EventEntry) (p : Place) → has_flags p (set_flags at change fs) ≡ has_flags p fs
open-set at change [] p = refl
open-set at change (f ∷ fs) p =
    let b = same_place f.0 at in
    let place : (cond b (f.0, change f.1) f).0 ≡ f.0 = elim (cases_Bool b) [
      | inl e ↦ ap (λ (g : EventEntry). g.0) (cond-true b (f.0, change f.1) f e)
      | inr e ↦ ap (λ (g : EventEntry). g.0) (cond-false b (f.0, change f.1) f e)
    ] in
    ap (λ q. same_place q p || has_flags p (set_flags at change fs)) place ∙ ap (λ t. same_place f.0 p || t) (open-set at change fs p)

pub open-filter : (r : Place → Bool) (fs : List EventEntry) (p : Place) → r p ≡ true → has_flags p fs ≡ true → has_flags p (filter (λ f. r f.0) fs) ≡ true
open-filter r [] p k h = h
open-filter r (f ∷ fs) p k h =
    let rest = filter (λ (g : EventEntry). r g.0) fs in
    let b = r f.0 in
    elim (or_cases (same_place f.0 p) (has_flags p fs) h) [
      | inl e ↦
          let kept : b ≡ true = ap r (same_place_true f.0 p e) ∙ k in
          ap (has_flags p) (cond-true b (f ∷ rest) rest kept) ∙ or_left (same_place f.0 p) (has_flags p rest) e
      | inr e ↦
          let more : has_flags p rest ≡ true = open-filter r fs p k e in
          elim (cases_Bool b) [
            | inl t ↦ ap (has_flags p) (cond-true b (f ∷ rest) rest t) ∙ or_right (same_place f.0 p) (has_flags p rest) more
            | inr t ↦ ap (has_flags p) (cond-false b (f ∷ rest) rest t) ∙ more
          ]
    ]

open-both : (f : EventEntry) (b : Bool) (xs ys : List EventEntry) (p : Place) → has_flags p xs ≡ has_flags p ys → has_flags p (cond b xs ys) ≡ has_flags p ys
open-both f true xs ys p h = h
open-both f false xs ys p h = refl

pub swapped : (a b c : Bool) → (a || (b || c)) ≡ (b || (a || c))
swapped true true c = refl
swapped true false c = refl
swapped false true c = refl
swapped false false c = refl

-- an event that is put at its place is open, and what was open stays open
pub open-put : (f : EventEntry) (fs : List EventEntry) (p : Place) → has_flags p (event_put f fs) ≡ (same_place f.0 p || has_flags p fs)
open-put f [] p = refl
open-put f (g ∷ gs) p =
    let last : has_flags p (g ∷ event_put f gs) ≡ has_flags p (f ∷ g ∷ gs) =
    ap (λ t. same_place g.0 p || t) (open-put f gs p) ∙ swapped (same_place g.0 p) (same_place f.0 p) (has_flags p gs) in
    open-both f (is_before f.0 g.0) (f ∷ g ∷ gs) (g ∷ event_put f gs) p (sym last) ∙ last

pub open-less : (r : Place → Bool) (fs : List EventEntry) (p : Place) → has_flags p (filter (λ f. r f.0) fs) ≡ true → has_flags p fs ≡ true
open-less r [] p h = h
open-less r (f ∷ fs) p h =
    let rest = filter (λ (g : EventEntry). r g.0) fs in
    elim (cases_Bool (r f.0)) [
      | inl e ↦ elim (or_cases (same_place f.0 p) (has_flags p rest) (sym (ap (has_flags p) (cond-true (r f.0) (f ∷ rest) rest e)) ∙ h)) [
        | inl k ↦ or_left (same_place f.0 p) (has_flags p fs) k
        | inr k ↦ or_right (same_place f.0 p) (has_flags p fs) (open-less r fs p k)
      ]
      | inr e ↦ or_right (same_place f.0 p) (has_flags p fs) (open-less r fs p (sym (ap (has_flags p) (cond-false (r f.0) (f ∷ rest) rest e)) ∙ h))
    ]

-- the numbers of those who wait are from 1 to n
pub queued_known : (fs : List EventEntry) (n : ℕ) (ws : List Waiting) → AreQueued fs n ws → AreFrom n (waiter_numbers_of ws)
queued_known fs n [] h = tt
queued_known fs n (w ∷ ws) h = (h.0, h.1, queued_known fs n ws h.4)

pub listed_known : (fs : List EventEntry) (n : ℕ) (queue : Queue) (at : Place) (ws : List Waiting) → AreQueued fs n ws → AreFrom n (waiters_listed queue at ws)
listed_known fs n queue at [] h = tt
listed_known fs n queue at (w ∷ ws) h =
    let rest = listed_known fs n queue at ws h.4 in
    let t = stands_in queue at w in
    let more = filter (stands_in queue at) ws in
    elim (cases_Bool t) [
      | inl e ↦ subst (λ vs. AreFrom n (waiter_numbers_of vs)) (sym (cond-true t (w ∷ more) more e)) (h.0, h.1, rest)
      | inr e ↦ subst (λ vs. AreFrom n (waiter_numbers_of vs)) (sym (cond-false t (w ∷ more) more e)) rest
    ]

-- who does not stand in a list of an event is not listed there
abbrev waits_there : Queue → Place → ℕ → Waiting → Bool
waits_there queue at p v = eqb p v.process && stands_in queue at v

times_unlisted : (queue : Queue) (at : Place) (p : ℕ) (ws : List Waiting) → list_any (waits_there queue at p) ws ≡ false → times_in p (waiters_listed queue at ws) ≡ 0
times_unlisted queue at p [] h = refl
times_unlisted queue at p (w ∷ ws) h =
    let parts = or_parts (waits_there queue at p w) (list_any (waits_there queue at p) ws) h in
    let rest = times_unlisted queue at p ws parts.1 in
    let t = stands_in queue at w in
    let more = filter (stands_in queue at) ws in
    elim (cases_Bool t) [
      | inl e ↦
          let other : eqb p w.process ≡ false = false_from_ne_true (eqb p w.process) (λ k. both_ways (waits_there queue at p w) parts.0 (and_from (eqb p w.process) t k e)) in
          let head : one_if (eqb p w.process) ≡ 0 = cond-false (eqb p w.process) 1 0 other in
          let is : times_in p (waiter_numbers_of (w ∷ more)) ≡ 0 = omega arith in
          ap (λ vs. times_in p (waiter_numbers_of vs)) (cond-true t (w ∷ more) more e) ∙ is
      | inr e ↦ ap (λ vs. times_in p (waiter_numbers_of vs)) (cond-false t (w ∷ more) more e) ∙ rest
    ]

pub same_queue_true : (a b : Queue) → same_queue a b ≡ true → a ≡ b
same_queue_true Waiters Waiters h = refl
same_queue_true Waiters Procurers h = cc
same_queue_true Procurers Waiters h = cc
same_queue_true Procurers Procurers h = refl

-- each stands in a list of an event once
listed_once : (fs : List EventEntry) (n : ℕ) (queue : Queue) (at : Place) (p : ℕ) (ws : List Waiting) → AreQueued fs n ws → times_in p (waiters_listed queue at ws) ≤ 1
listed_once fs n queue at p [] h = omega arith
listed_once fs n queue at p (w ∷ ws) h =
    let rest = listed_once fs n queue at p ws h.4 in
    let t = stands_in queue at w in
    let more = filter (stands_in queue at) ws in
    elim (cases_Bool t) [
      | inl e ↦
          let parts = and_parts (same_place at w.place) (same_queue queue w.queue) e in
          let place : at ≡ w.place = same_place_true at w.place parts.0 in
          let kind : queue ≡ w.queue = same_queue_true queue w.queue parts.1 in
          let is : times_in p (waiters_listed queue at (w ∷ ws)) ≡ one_if (eqb p w.process) + times_in p (waiters_listed queue at ws) = ap (λ vs. times_in p (waiter_numbers_of vs)) (cond-true t (w ∷ more) more e) in
          elim (cases_Bool (eqb p w.process)) [
            | inl k ↦
                let none : list_any (waits_there queue at p) ws ≡ false =
                ap (λ m. list_any (waits_there queue at m) ws) (eqb-true p w.process k)
                ∙ ap (λ b. list_any (waits_there queue b w.process) ws) place ∙ ap (λ b. list_any (waits_there b w.place w.process) ws) kind ∙ h.3 in
                let zero = times_unlisted queue at p ws none in
                let head : one_if (eqb p w.process) ≡ 1 = cond-true (eqb p w.process) 1 0 k in omega arith
            | inr k ↦ let head : one_if (eqb p w.process) ≡ 0 = cond-false (eqb p w.process) 1 0 k in omega arith
          ]
      | inr e ↦ let is : times_in p (waiters_listed queue at (w ∷ ws)) ≡ times_in p (waiters_listed queue at ws) = ap (λ vs. times_in p (waiter_numbers_of vs)) (cond-false t (w ∷ more) more e) in omega arith
    ]

-- no more wait for an event than there are processes
pub room_one : (fs : List EventEntry) (n : ℕ) (queue : Queue) (at : Place) (ws : List Waiting) → AreQueued fs n ws → length (waiters_listed queue at ws) ≤ n
room_one fs n queue at ws h =
    let few = times_bound n 1 (waiters_listed queue at ws) (listed_known fs n queue at ws h) (λ p. listed_once fs n queue at p ws h) in
    omega arith

-- a process that no event shows does not wait
abbrev waits_so : Queue → Place → ℕ → Waiting → Bool
waits_so queue at p w = stands_in queue at w && eqb p w.process

listed_has : (queue : Queue) (at : Place) (p : ℕ) (ws : List Waiting) → list_any (waits_so queue at p) ws ≡ true → list_any (eqb p) (waiters_listed queue at ws) ≡ true
listed_has queue at p [] h = h
listed_has queue at p (w ∷ ws) h =
    let t = stands_in queue at w in
    let rest = filter (stands_in queue at) ws in
    let numbers : List Waiting → List ℕ = map (λ w. w.process) in
    elim (or_cases (waits_so queue at p w) (list_any (waits_so queue at p) ws) h) [
      | inl e ↦
          let parts = and_parts t (eqb p w.process) e in
          ap (λ ks. list_any (eqb p) (numbers ks)) (cond-true t (w ∷ rest) rest parts.0) ∙ or_left (eqb p w.process) (list_any (eqb p) (waiters_listed queue at ws)) parts.1
      | inr e ↦
          let more = listed_has queue at p ws e in
          elim (cases_Bool t) [
            | inl k ↦
                ap (λ ks. list_any (eqb p) (numbers ks)) (cond-true t (w ∷ rest) rest k) ∙ or_right (eqb p w.process) (list_any (eqb p) (waiters_listed queue at ws)) more
            | inr k ↦ ap (λ ks. list_any (eqb p) (numbers ks)) (cond-false t (w ∷ rest) rest k) ∙ more
          ]
    ]

both_have : (queue : Queue) (at : Place) (p : ℕ) (ws : List Waiting) → list_any (eqb p) (waiters_listed queue at ws) ≡ true
    → list_any (eqb p) (waiters_listed Waiters at ws ++ waiters_listed Procurers at ws) ≡ true
both_have Waiters at p ws h =
    list_any-append (eqb p) (waiters_listed Waiters at ws) (waiters_listed Procurers at ws)
    ∙ or_left (list_any (eqb p) (waiters_listed Waiters at ws)) (list_any (eqb p) (waiters_listed Procurers at ws)) h
both_have Procurers at p ws h =
    list_any-append (eqb p) (waiters_listed Waiters at ws) (waiters_listed Procurers at ws)
    ∙ or_right (list_any (eqb p) (waiters_listed Waiters at ws)) (list_any (eqb p) (waiters_listed Procurers at ws)) h

waiting_shown : (queue : Queue) (at : Place) (p : ℕ) (ws : List Waiting) → list_any (eqb p) (waiters_listed queue at ws) ≡ true
    → (fs : List EventEntry) → has_flags at fs ≡ true → is_waiting p (events_of fs ws) ≡ true
waiting_shown queue at p ws h [] k = k
waiting_shown queue at p ws h (f ∷ fs) k =
    let here = list_any (eqb p) (waiters_listed Waiters f.0 ws ++ waiters_listed Procurers f.0 ws) in
    elim (or_cases (same_place f.0 at) (has_flags at fs) k) [
      | inl e ↦
          let same : at ≡ f.0 = sym (same_place_true f.0 at e) in
          or_left here (is_waiting p (events_of fs ws)) (both_have queue f.0 p ws (ap (λ q. list_any (eqb p) (waiters_listed queue q ws)) (sym same) ∙ h))
      | inr e ↦ or_right here (is_waiting p (events_of fs ws)) (waiting_shown queue at p ws h fs e)
    ]

same_queue_self : (queue : Queue) → same_queue queue queue ≡ true
same_queue_self Waiters = refl
same_queue_self Procurers = refl

idle_among : (fs : List EventEntry) (n : ℕ) (all : List Waiting) (p : ℕ) → is_waiting p (events_of fs all) ≡ false
    → (ws : List Waiting) → ((queue : Queue) (at : Place) → list_any (waits_so queue at p) ws ≡ true → list_any (waits_so queue at p) all ≡ true)
    → AreQueued fs n ws → among p ws ≡ false
idle_among fs n all p idle [] within h = refl
idle_among fs n all p idle (w ∷ ws) within h =
    let rest = idle_among fs n all p idle ws
    (λ queue at k. within queue at (or_right (waits_so queue at p w) (list_any (waits_so queue at p) ws) k)) h.4 in
    let apart : eqb p w.process ≡ false = false_from_ne_true (eqb p w.process) (λ e.
    let stands : stands_in w.queue w.place w ≡ true =
    and_from (same_place w.place w.place) (same_queue w.queue w.queue) (same_place_self w.place w.place refl) (same_queue_self w.queue) in
    let here = or_left (waits_so w.queue w.place p w) (list_any (waits_so w.queue w.place p) ws) (and_from (stands_in w.queue w.place w) (eqb p w.process) stands e) in
    both_ways (is_waiting p (events_of fs all)) idle
    (waiting_shown w.queue w.place p all (listed_has w.queue w.place p all (within w.queue w.place here)) fs h.2)) in
    or_from (eqb p w.process) (among p ws) apart rest

pub idle_is_not_among : (fs : List EventEntry) (n : ℕ) (ws : List Waiting) (p : ℕ) → AreQueued fs n ws → is_waiting p (events_of fs ws) ≡ false → among p ws ≡ false
idle_is_not_among fs n ws p h idle = idle_among fs n ws p idle ws (λ queue at k. k) h
