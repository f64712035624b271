-- A process that waits for two events to happen has listed them: so who is released is found by its list.
use Rattle.std.proofs.Common.{◌≡◌, ℕ, zero, suc, ◌≤◌, ◌⊎◌, Bool, true, false, cond, not, ◌&&◌, ◌||◌, eqb, List, [], ◌∷◌, ◌++◌, length, map, refl, sym, ap, ◌∙◌, subst, inl, inr, arith}
use Rattle.std.specs.Prelude.{filter, All}
use Rattle.std.specs.List.{list_any}
use Rattle.std.proofs.lemmas.Bool.{cases_Bool, cond-true, cond-false, and_parts, and_from, and_left, and_right, both_ways, false_from_ne_true, not_from_true, not_from_false, eqb-true, eq-eqb, or_cases, or_parts, or_from, or_left, or_right}
use Rattle.std.proofs.lemmas.List.Elements.{All-head, All-tail}
use Rattle.b67_word.specs.declared.Place.{Place}
use Rattle.b67_events.specs.Events.{same_place, is_open, waiter_is_one_of, event_is_among, list_of, with_list, unlisted}
use Rattle.b67_events.specs.Kept.{same_queue, stands_in, waiters_listed, EventEntry, events_of, has_flags, AreWithin, among, without_first, joiners, stand, stand_all, is_named, waits_at, AreNamed, PlacesAreListed}
use Rattle.b67_events.specs.declared.Queue.TheVariants.{Waiters, Procurers}
use Rattle.b67_events.specs.declared.Waiting.{Waiting}
use Rattle.b67_events.proofs.Listed.{same_place_self, place_of}
use Rattle.b67_events.proofs.Queued.{any_filter, any_first}
use Rattle.b67_events.proofs.Joined.{one}
use Rattle.b67_events.proofs.OfSeveral.{list_own, list_other, list_unlisted, list_length, unlisted_length}
use Rattle.b67_events.proofs.Leaving.{leaves, stays}
use Rattle.b67_events.proofs.Shown.{open-shown}
use Rattle.b67_events.proofs.Stood.{AreLow, any_stand, no_more}

-- one who waits for the event at a place to happen, as this process
abbrev pub waits_so : Place → ℕ → Waiting → Bool
waits_so at p w = stands_in Waiters at w && eqb p w.process

pub waits_any : (p : ℕ) (at : Place) (ws : List Waiting) → waiter_is_one_of (waiters_listed Waiters at ws) p ≡ list_any (waits_so at p) ws
waits_any p at [] = refl
waits_any p at (w ∷ ws) =
    let t = stands_in Waiters at w in
    let rest = filter (stands_in Waiters at) ws in
    let numbers : List Waiting → List ℕ = map (λ v. v.process) in
    elim (cases_Bool t) [
      | inl e ↦
          ap (λ vs. waiter_is_one_of (numbers vs) p) (cond-true t (w ∷ rest) rest e)
          ∙ ap (λ b. eqb p w.process || b) (waits_any p at ws) ∙ ap (λ b. b && eqb p w.process || list_any (waits_so at p) ws) (sym e)
      | inr e ↦
          ap (λ vs. waiter_is_one_of (numbers vs) p) (cond-false t (w ∷ rest) rest e)
          ∙ waits_any p at ws ∙ ap (λ b. b && eqb p w.process || list_any (waits_so at p) ws) (sym e)
    ]

any_less : (t : Waiting → Bool) (vs ws : List Waiting) → (list_any t ws ≡ false → list_any t vs ≡ false) → list_any t vs ≡ true → list_any t ws ≡ true
any_less t vs ws none h = elim (cases_Bool (list_any t ws)) [
  | inl e ↦ e
  | inr e ↦ absurd (both_ways (list_any t vs) (none e) h)
]

waits_less : (p : ℕ) (at : Place) (vs ws : List Waiting) → (list_any (waits_so at p) ws ≡ false → list_any (waits_so at p) vs ≡ false)
    → waits_at vs p at → waits_at ws p at
waits_less p at vs ws none h = waits_any p at ws ∙ any_less (waits_so at p) vs ws none (sym (waits_any p at vs) ∙ h)

pub waits_filter : (r : Waiting → Bool) (ws : List Waiting) (p : ℕ) (at : Place) → waits_at (filter r ws) p at → waits_at ws p at
waits_filter r ws p at h = waits_less p at (filter r ws) ws (any_filter (waits_so at p) r ws) h

pub waits_first : (r : Waiting → Bool) (ws : List Waiting) (p : ℕ) (at : Place) → waits_at (without_first r ws) p at → waits_at ws p at
waits_first r ws p at h = waits_less p at (without_first r ws) ws (any_first (waits_so at p) r ws) h

pub named_less : (lists : List (List Place)) (ws vs : List Waiting) → ((p : ℕ) (at : Place) → waits_at vs p at → waits_at ws p at)
    → AreNamed lists ws → AreNamed lists vs
named_less lists ws vs less h p a b x y = h p a b (less p a x) (less p b y)

-- ---- who begins to wait

nobody : (p : ℕ) (at : Place) (ws : List Waiting) → among p ws ≡ false → list_any (waits_so at p) ws ≡ false
nobody p at [] h = refl
nobody p at (w ∷ ws) h =
    let parts = or_parts (eqb p w.process) (among p ws) h in
    or_from (waits_so at p w) (list_any (waits_so at p) ws) (and_right (stands_in Waiters at w) (eqb p w.process) parts.0) (nobody p at ws parts.1)

stood : (t : Waiting → Bool) (x : Waiting) (ws : List Waiting) → list_any t (stand x ws) ≡ (t x || list_any t ws)
stood t x ws = ap (list_any t) (sym (no_more (stand x ws))) ∙ any_stand t x ws [] ∙ ap (λ vs. t x || list_any t vs) (no_more ws)

stood_all : (t : Waiting → Bool) (js ws : List Waiting) → list_any t (stand_all js ws) ≡ (list_any t js || list_any t ws)
stood_all t [] ws = refl
stood_all t (j ∷ js) ws =
    stood_all t js (stand j ws) ∙ ap (λ b. list_any t js || b) (stood t j ws) ∙ moved (list_any t js) (t j) (list_any t ws)
  where
    moved : (a b c : Bool) → (a || (b || c)) ≡ ((b || a) || c)
    moved true true c = refl
    moved true false c = refl
    moved false true c = refl
    moved false false c = refl

-- who waits after one has come is that one, or waited before
waits_stood : (x : Waiting) (ws : List Waiting) (p : ℕ) (at : Place) → waits_at (stand x ws) p at → (waits_so at p x ≡ true) ⊎ waits_at ws p at
waits_stood x ws p at h = elim (or_cases (waits_so at p x) (list_any (waits_so at p) ws) (sym (stood (waits_so at p) x ws) ∙ sym (waits_any p at (stand x ws)) ∙ h)) [
  | inl e ↦ inl e
  | inr e ↦ inr (waits_any p at ws ∙ e)
]

pub named_stand : (lists : List (List Place)) (x : Waiting) (ws : List Waiting) → among x.process ws ≡ false → AreNamed lists ws → AreNamed lists (stand x ws)
named_stand lists x ws idle h p a b s t = elim (waits_stood x ws p a s) [
  | inl d ↦
      let first = and_parts (stands_in Waiters a x) (eqb p x.process) d in
      elim (waits_stood x ws p b t) [
        | inl e ↦
            let second = and_parts (stands_in Waiters b x) (eqb p x.process) e in
            inl (same_place_self a b (place_of Waiters a x first.0 ∙ sym (place_of Waiters b x second.0)))
        | inr e ↦ absurd (not_idle b first.1 e)
      ]
  | inr d ↦ elim (waits_stood x ws p b t) [
    | inl e ↦ absurd (not_idle a (and_parts (stands_in Waiters b x) (eqb p x.process) e).1 d)
    | inr e ↦ h p a b d e
  ]
]
  where
    not_idle : (at : Place) → eqb p x.process ≡ true → waits_at ws p at → ⊥
    not_idle at k w =
        both_ways (list_any (waits_so at x.process) ws) (nobody x.process at ws idle)
        (ap (λ q. list_any (waits_so at q) ws) (sym (eqb-true p x.process k)) ∙ sym (waits_any p at ws) ∙ w)

pub named_procure : (lists : List (List Place)) (p : ℕ) (at : Place) (ws : List Waiting) → AreNamed lists ws
    → AreNamed lists (stand (record { process = p; place = at; queue = Procurers }) ws)
named_procure lists p at ws h =
    let x : Waiting = record { process = p; place = at; queue = Procurers } in
    named_less lists ws (stand x ws) (λ q to s. elim (waits_stood x ws q to s) [
      | inl e ↦ absurd (both_ways (waits_so to q x) (and_left (stands_in Waiters to x) (eqb q p) (and_right (same_place to at) false refl)) e)
      | inr e ↦ e
    ]) h

-- who joins waits for these places, and is this process
joins_these : (p q : ℕ) (at : Place) (seen ats : List Place) → list_any (waits_so at q) (joiners p seen ats) ≡ true → (event_is_among ats at ≡ true) × (eqb q p ≡ true)
joins_these p q at seen [] h = cc
joins_these p q at seen (a ∷ ats) h =
    let b = event_is_among seen a in
    let rest = joiners p (seen ++ a ∷ []) ats in
    elim (cases_Bool b) [
      | inl e ↦
          let more = joins_these p q at (seen ++ a ∷ []) ats (sym (ap (list_any (waits_so at q)) (cond-true b rest (one p a ∷ rest) e)) ∙ h) in
          (or_right (same_place a at) (event_is_among ats at) more.0, more.1)
      | inr e ↦
          elim (or_cases (waits_so at q (one p a)) (list_any (waits_so at q) rest) (sym (ap (list_any (waits_so at q)) (cond-false b rest (one p a ∷ rest) e)) ∙ h)) [
            | inl k ↦
                let parts = and_parts (stands_in Waiters at (one p a)) (eqb q p) k in
                (or_left (same_place a at) (event_is_among ats at) (same_place_self a at (sym (place_of Waiters at (one p a) parts.0))), parts.1)
            | inr k ↦
                let more = joins_these p q at (seen ++ a ∷ []) ats k in
                (or_right (same_place a at) (event_is_among ats at) more.0, more.1)
          ]
    ]

pub named_any : (lists : List (List Place)) (p : ℕ) (places : List Place) (ws : List Waiting) → 1 ≤ p → among p ws ≡ false → AreNamed lists ws
    → AreNamed (with_list lists p places) (stand_all (joiners p [] places) ws)
named_any lists zero places ws low idle h = absurd (omega (arith, low))
named_any lists (suc k) places ws low idle h = λ q a b s t.
    let p : ℕ = suc k in
    let js = joiners p [] places in
    let split : (at : Place) → waits_at (stand_all js ws) q at → list_any (waits_so at q) js || list_any (waits_so at q) ws ≡ true = λ at w.
    sym (stood_all (waits_so at q) js ws) ∙ sym (waits_any q at (stand_all js ws)) ∙ w in
    elim (cases_Bool (eqb q p)) [
      | inl e ↦
          let same : q ≡ p = eqb-true q p e in
          let here : event_is_among places b ≡ true = elim (or_cases (list_any (waits_so b q) js) (list_any (waits_so b q) ws) (split b t)) [
            | inl j ↦ (joins_these p q b [] places j).0
            | inr w ↦ absurd (both_ways (list_any (waits_so b p) ws) (nobody p b ws idle) (ap (λ m. list_any (waits_so b m) ws) (sym same) ∙ w))
          ] in
          inr (ap (λ m. event_is_among (list_of m (with_list lists p places)) b) same ∙ ap (λ l. event_is_among l b) (list_own lists k places) ∙ here)
      | inr e ↦
          let other : p ≡ q → ⊥ = λ m. both_ways (eqb q p) e (eq-eqb q p (sym m)) in
          let before : (at : Place) → waits_at (stand_all js ws) q at → waits_at ws q at = λ at w.
          elim (or_cases (list_any (waits_so at q) js) (list_any (waits_so at q) ws) (split at w)) [
            | inl j ↦ absurd (both_ways (eqb q p) e (joins_these p q at [] places j).1)
            | inr v ↦ waits_any q at ws ∙ v
          ] in
          elim (h q a b (before a s) (before b t)) [
            | inl m ↦ inl m
            | inr m ↦ inr (ap (λ l. event_is_among l b) (list_other lists p q places other) ∙ m)
          ]
    ]

-- who joins events that are open is at displacements that a stack has
pub low_joiners : (fs : List EventEntry) (ws : List Waiting) (p : ℕ) (seen ats : List Place) → AreWithin fs
    → All (λ (a : Place). is_open a (events_of fs ws) ≡ true) ats → AreLow (joiners p seen ats)
low_joiners fs ws p seen [] within h = tt
low_joiners fs ws p seen (a ∷ ats) within h =
    let b = event_is_among seen a in
    let rest = joiners p (seen ++ a ∷ []) ats in
    let more = low_joiners fs ws p (seen ++ a ∷ []) ats within (All-tail (λ (q : Place). is_open q (events_of fs ws) ≡ true) a ats h) in
    let here : has_flags a fs ≡ true = sym (open-shown a fs ws) ∙ All-head (λ (q : Place). is_open q (events_of fs ws) ≡ true) a ats h in
    elim (cases_Bool b) [
      | inl e ↦ subst AreLow (sym (cond-true b rest (one p a ∷ rest) e)) more
      | inr e ↦ subst AreLow (sym (cond-false b rest (one p a ∷ rest) e)) (within a here, more)
    ]

-- ---- who is released

none_left : (p : ℕ) (at : Place) (ps : List ℕ) (ws : List Waiting) → waiter_is_one_of ps p ≡ true → list_any (waits_so at p) (filter (stays ps) ws) ≡ false
none_left p at ps [] h = refl
none_left p at ps (w ∷ ws) h =
    let rest = filter (stays ps) ws in
    elim (cases_Bool (stays ps w)) [
      | inl e ↦
          let no : waits_so at p w ≡ false = false_from_ne_true (waits_so at p w) (λ k.
          let parts = and_parts (stands_in Waiters at w) (eqb p w.process) k in
          let waiter = (and_parts (same_place at w.place) (same_queue Waiters w.queue) parts.0).1 in
          let one : waiter_is_one_of ps w.process ≡ true = ap (waiter_is_one_of ps) (sym (eqb-true p w.process parts.1)) ∙ h in
          both_ways (stays ps w) (not_from_true (leaves ps w) (and_from (same_queue Waiters w.queue) (waiter_is_one_of ps w.process) waiter one)) e) in
          ap (list_any (waits_so at p)) (cond-true (stays ps w) (w ∷ rest) rest e) ∙ or_from (waits_so at p w) (list_any (waits_so at p) rest) no (none_left p at ps ws h)
      | inr e ↦ ap (list_any (waits_so at p)) (cond-false (stays ps w) (w ∷ rest) rest e) ∙ none_left p at ps ws h
    ]

pub named_released : (lists : List (List Place)) (ps : List ℕ) (ws : List Waiting) → AreNamed lists ws → AreNamed (unlisted ps lists) (filter (stays ps) ws)
named_released lists ps ws h p a b s t = elim (cases_Bool (waiter_is_one_of ps p)) [
  | inl e ↦ absurd (both_ways (list_any (waits_so a p) (filter (stays ps) ws)) (none_left p a ps ws e) (sym (waits_any p a (filter (stays ps) ws)) ∙ s))
  | inr e ↦
      let list : list_of p (unlisted ps lists) ≡ list_of p lists = list_unlisted ps lists p ∙ cond-false (waiter_is_one_of ps p) [] (list_of p lists) e in
      elim (h p a b (waits_filter (stays ps) ws p a s) (waits_filter (stays ps) ws p b t)) [
        | inl m ↦ inl m
        | inr m ↦ inr (ap (λ l. event_is_among l b) list ∙ m)
      ]
]

waits_own : (w : Waiting) (ws : List Waiting) → same_queue Waiters w.queue ≡ true → waits_at (w ∷ ws) w.process w.place
waits_own w ws h =
    waits_any w.process w.place (w ∷ ws)
    ∙ or_left (waits_so w.place w.process w) (list_any (waits_so w.place w.process) ws)
    (and_from (stands_in Waiters w.place w) (eqb w.process w.process)
    (and_from (same_place w.place w.place) (same_queue Waiters w.queue) (same_place_self w.place w.place refl) h) (eq-eqb w.process w.process refl))

waits_tail : (v : Waiting) (ws : List Waiting) (p : ℕ) (at : Place) → waits_at ws p at → waits_at (v ∷ ws) p at
waits_tail v ws p at h =
    waits_any p at (v ∷ ws) ∙ or_right (waits_so at p v) (list_any (waits_so at p) ws) (sym (waits_any p at ws) ∙ h)

-- of those who are left when an event has let all go, the same leave by their lists as leave all events
module _ (at : Place) (lists : List (List Place)) (ws : List Waiting) (h : AreNamed lists ws) where
  abbrev gone : List ℕ
  gone = waiters_listed Waiters at ws

  named_is : (w : Waiting) → stands_in Waiters at w ≡ false → (same_queue Waiters w.queue ≡ true → waits_at ws w.process w.place)
      → is_named gone lists w ≡ leaves gone w
  named_is w out there = elim (cases_Bool (same_queue Waiters w.queue)) [
    | inr e ↦ and_left (same_queue Waiters w.queue) (waiter_is_one_of gone w.process && event_is_among (list_of w.process lists) w.place) e ∙ sym (and_left (same_queue Waiters w.queue) (waiter_is_one_of gone w.process) e)
    | inl e ↦ elim (cases_Bool (waiter_is_one_of gone w.process)) [
      | inr k ↦
          and_right (same_queue Waiters w.queue) (waiter_is_one_of gone w.process && event_is_among (list_of w.process lists) w.place) (and_left (waiter_is_one_of gone w.process) (event_is_among (list_of w.process lists) w.place) k)
          ∙ sym (and_right (same_queue Waiters w.queue) (waiter_is_one_of gone w.process) k)
      | inl k ↦ elim (h w.process at w.place k (there e)) [
        | inl m ↦ absurd (both_ways (stands_in Waiters at w) out (and_from (same_place at w.place) (same_queue Waiters w.queue) m e))
        | inr m ↦
            and_from (same_queue Waiters w.queue) (waiter_is_one_of gone w.process && event_is_among (list_of w.process lists) w.place) e
            (and_from (waiter_is_one_of gone w.process) (event_is_among (list_of w.process lists) w.place) k m)
            ∙ sym (and_from (same_queue Waiters w.queue) (waiter_is_one_of gone w.process) e k)
      ]
    ]
  ]

  released_part : (vs : List Waiting) → ((p : ℕ) (to : Place) → waits_at vs p to → waits_at ws p to)
      → filter (λ w. not (is_named gone lists w)) (filter (λ w. not (stands_in Waiters at w)) vs) ≡ filter (stays gone) (filter (λ w. not (stands_in Waiters at w)) vs)
  released_part [] part = refl
  released_part (v ∷ vs) part =
      let t = stands_in Waiters at v in
      let others = filter (λ (w : Waiting). not (stands_in Waiters at w)) vs in
      let named : Waiting → Bool = λ w. not (is_named gone lists w) in
      let rest = released_part vs (λ p to k. part p to (waits_tail v vs p to k)) in
      elim (cases_Bool t) [
        | inl e ↦
            let out = cond-false (not t) (v ∷ others) others (not_from_true t e) in
            ap (filter named) out ∙ rest ∙ sym (ap (filter (stays gone)) out)
        | inr e ↦
            let in_ = cond-true (not t) (v ∷ others) others (not_from_false t e) in
            ap (filter named) in_
            ∙ ap (λ b. cond (not b) (v ∷ filter named others) (filter named others)) (named_is v e (λ k. part v.process v.place (waits_own v vs k)))
            ∙ ap (λ us. cond (stays gone v) (v ∷ us) us) rest
            ∙ sym (ap (filter (stays gone)) in_)
      ]

  pub released_is : filter (λ w. not (is_named gone lists w)) (filter (λ w. not (stands_in Waiters at w)) ws)
      ≡ filter (stays gone) (filter (λ w. not (stands_in Waiters at w)) ws)
  released_is = released_part ws (λ p to k. k)

-- ---- the lists of those who wait for several

pub lists_wider : (ls : List (List Place)) (ws : List Waiting) (n capacity more : ℕ) → PlacesAreListed ls ws n capacity → capacity ≤ more → PlacesAreListed ls ws n more
lists_wider ls ws n capacity more k wide =
    record { room = (let room : n ≤ capacity = k.room in omega (arith, room, wide)); known = k.known; named = k.named }

pub lists_waiting : (ls : List (List Place)) (ws vs : List Waiting) (n capacity : ℕ) → PlacesAreListed ls ws n capacity → AreNamed ls vs → PlacesAreListed ls vs n capacity
lists_waiting ls ws vs n capacity k named = record { room = k.room; known = k.known; named = named }

pub lists_less : (ls : List (List Place)) (ws vs : List Waiting) (n capacity : ℕ) → PlacesAreListed ls ws n capacity
    → ((p : ℕ) (at : Place) → waits_at vs p at → waits_at ws p at) → PlacesAreListed ls vs n capacity
lists_less ls ws vs n capacity k less = lists_waiting ls ws vs n capacity k (named_less ls ws vs less k.named)

pub lists_with : (ls : List (List Place)) (ws : List Waiting) (n capacity p : ℕ) (places : List Place) → PlacesAreListed ls ws n capacity → 1 ≤ p → p ≤ n
    → among p ws ≡ false → PlacesAreListed (with_list ls p places) (stand_all (joiners p [] places) ws) n capacity
lists_with ls ws n capacity p places k low high idle = record {
  room = k.room;
  known = list_length n ls p places high k.known;
  named = named_any ls p places ws low idle k.named;
}

pub lists_without : (ls : List (List Place)) (ws : List Waiting) (n capacity : ℕ) (ps : List ℕ) → PlacesAreListed ls ws n capacity
    → PlacesAreListed (unlisted ps ls) (filter (stays ps) ws) n capacity
lists_without ls ws n capacity ps k = record {
  room = k.room;
  known = (let long = unlisted_length ps ls in let short : length ls ≤ n = k.known in omega (arith, long, short));
  named = named_released ls ps ws k.named;
}
