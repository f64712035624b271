-- How often a process waits, before and after each action.
use Rattle.std.proofs.Common.{◌≡◌, ℕ, ◌+◌, ◌≤◌, Bool, true, false, cond, not, eqb, List, [], ◌∷◌, ◌++◌, All, take, drop, Some, None, refl, sym, ap, ◌∙◌, inl, inr, arith}
use Rattle.std.specs.Prelude.{filter, map}
use Rattle.std.specs.List.{list_any}
use Rattle.std.proofs.lemmas.List.Elements.{All-nil, All-cons, All-head, All-tail, All-weaker, All-map, All-filter}
use Rattle.std.proofs.lemmas.Bool.{cases_Bool, cond-true, cond-false, both_ways, false_from_ne_true, not_from_true, not_from_false, eqb-true, or_cases, or_parts, or_from}
use Rattle.b67_word.specs.declared.Place.{Place}
use Rattle.b67_deeds.specs.declared.EventAct.TheVariants as act
use Rattle.b67_deeds.specs.declared.EventTest.TheVariants as test
use Rattle.b67_deeds.specs.Events.{EventState, caused, let_go, left_by, joined, queued, taken, served, passed_on}
use Rattle.b67_deeds.specs.Deeds.{EventDeed, acts, tests, goes, waits, procures}
use Rattle.b67_events.specs.Events.{Event, same_place, event_at, is_open, is_from, state_of, waiters_at, procurers_at, happened_at, available_at, is_waiting, event_changed, with_state, changed_by, deed_at, done_at, fresh, is_before, placed, waiter_is_one_of, event_is_among, withdrawn, joined_all}
use Rattle.b67_events.specs.Laws.{EventsAreApart}
use Rattle.b67_events.specs.Once.{times_in, waiting_times, waiters_of, procurers_of, is_waiter, WaitsOneWay, EachOnce, MayWait, EachWaitsOnce, ReleasedWaitNowhere}
use Rattle.b67_events.proofs.Listed.{same_place_true}
use Rattle.b67_events.proofs.Queued.{any_filter}
use Rattle.b67_events.proofs.Numbers.{times_join}

-- all lists of an event
abbrev all_of : EventState → List ℕ
all_of e = e.waiters ++ e.procurers

abbrev one_if : Bool → ℕ
one_if b = cond b 1 0

times_in_push : (p q : ℕ) (xs : List ℕ) → times_in p (xs ++ q ∷ []) ≡ times_in p xs + one_if (eqb p q)
times_in_push p q [] = omega arith
times_in_push p q (x ∷ xs) = let rest = times_in_push p q xs in omega arith

-- who stands in no list is counted there 0 times, and the other way round
pub times_in_none : (p : ℕ) (xs : List ℕ) → list_any (eqb p) xs ≡ false → times_in p xs ≡ 0
times_in_none p [] h = refl
times_in_none p (x ∷ xs) h =
    let parts = or_parts (eqb p x) (list_any (eqb p) xs) h in
    let rest = times_in_none p xs parts.1 in
    let head : one_if (eqb p x) ≡ 0 = cond-false (eqb p x) 1 0 parts.0 in omega arith

pub times_in_some : (p : ℕ) (xs : List ℕ) → list_any (eqb p) xs ≡ true → 1 ≤ times_in p xs
times_in_some p [] h = cc
times_in_some p (x ∷ xs) h = elim (or_cases (eqb p x) (list_any (eqb p) xs) h) [
  | inl e ↦ let head : one_if (eqb p x) ≡ 1 = cond-true (eqb p x) 1 0 e in omega arith
  | inr e ↦ let rest = times_in_some p xs e in omega arith
]

times_none : (p : ℕ) (es : List Event) → is_waiting p es ≡ false → waiting_times all_of p es ≡ 0
times_none p [] h = refl
times_none p (e ∷ es) h =
    let parts = or_parts (list_any (eqb p) (e.state.waiters ++ e.state.procurers)) (is_waiting p es) h in
    let here = times_in_none p (e.state.waiters ++ e.state.procurers) parts.0 in
    let rest = times_none p es parts.1 in
    omega arith

waiting_none : (p : ℕ) (es : List Event) → waiting_times all_of p es ≡ 0 → is_waiting p es ≡ false
waiting_none p [] h = refl
waiting_none p (e ∷ es) h = false_from_ne_true (is_waiting p (e ∷ es)) (λ k.
    elim (or_cases (list_any (eqb p) (e.state.waiters ++ e.state.procurers)) (is_waiting p es) k) [
      | inl t ↦
          let here = times_in_some p (e.state.waiters ++ e.state.procurers) t in absurd (omega arith)
      | inr t ↦ both_ways (is_waiting p es) (waiting_none p es (omega arith)) t
    ])

-- who procures waits
procures_less : (p : ℕ) (es : List Event) → waiting_times procurers_of p es ≤ waiting_times all_of p es
procures_less p [] = omega arith
procures_less p (e ∷ es) =
    let both = times_join p e.state.waiters e.state.procurers in
    let rest = procures_less p es in omega arith

one_of : Place → (Event → Event) → Event → Event
one_of at change e = cond (same_place e.place at) (change e) e

-- a change by which no event has a process more often in such lists
module _ (lists : EventState → List ℕ) (p : ℕ) where
  count : Event → ℕ
  count e = times_in p (lists e.state)

  times_fewer : (at : Place) (change : EventState → EventState) → ((s : EventState) → times_in p (lists (change s)) ≤ times_in p (lists s))
      → (es : List Event) → waiting_times lists p (event_changed at (with_state change) es) ≤ waiting_times lists p es
  unfolding one_of count
  times_fewer at change less [] = omega arith
  times_fewer at change less (e ∷ es) =
      let rest = times_fewer at change less es in
      let b = same_place e.place at in
      let head : count (one_of at (with_state change) e) ≤ count e = elim (cases_Bool b) [
        | inl h ↦ let is : count (one_of at (with_state change) e) ≡ count (with_state change e) = ap count (cond-true b (with_state change e) e h) in let l = less e.state in omega arith
        | inr h ↦ let is : count (one_of at (with_state change) e) ≡ count e = ap count (cond-false b (with_state change e) e h) in omega arith
      ] in
      omega arith

  times_mapped : (change : Event → Event) → ((e : Event) → times_in p (lists (change e).state) ≤ times_in p (lists e.state))
      → (es : List Event) → waiting_times lists p (map change es) ≤ waiting_times lists p es
  times_mapped change less [] = omega arith
  times_mapped change less (e ∷ es) = let rest = times_mapped change less es in let head = less e in omega arith

  times_filter : (r : Event → Bool) (es : List Event) → waiting_times lists p (filter r es) ≤ waiting_times lists p es
  times_filter r [] = omega arith
  times_filter r (e ∷ es) =
      let rest = times_filter r es in
      elim (cases_Bool (r e)) [
        | inl h ↦ let is : waiting_times lists p (filter r (e ∷ es)) ≡ waiting_times lists p (e ∷ filter r es) = ap (waiting_times lists p) (cond-true (r e) (e ∷ filter r es) (filter r es) h) in omega arith
        | inr h ↦ let is : waiting_times lists p (filter r (e ∷ es)) ≡ waiting_times lists p (filter r es) = ap (waiting_times lists p) (cond-false (r e) (e ∷ filter r es) (filter r es) h) in omega arith
      ]

  times_placed : (f : Event) (es : List Event) → waiting_times lists p (placed f es) ≡ waiting_times lists p es + times_in p (lists f.state)
  times_placed f [] = omega arith
  times_placed f (e ∷ es) =
      let rest = times_placed f es in
      elim (cases_Bool (is_before f.place e.place)) [
        | inl h ↦ ap (waiting_times lists p) (cond-true (is_before f.place e.place) (f ∷ e ∷ es) (e ∷ placed f es) h) ∙ omega arith
        | inr h ↦ ap (waiting_times lists p) (cond-false (is_before f.place e.place) (f ∷ e ∷ es) (e ∷ placed f es) h) ∙ omega arith
      ]

unchanged : (at : Place) (change : Event → Event) (es : List Event) → is_open at es ≡ false → event_changed at change es ≡ es
unchanged at change [] h = refl
unchanged at change (e ∷ es) h =
    let b = same_place e.place at in
    let parts = or_parts b (is_open at es) h in
    ap (λ x. x ∷ event_changed at change es) (cond-false b (change e) e parts.0) ∙ ap (λ xs. e ∷ xs) (unchanged at change es parts.1)

-- one more waits to procure the event at a place
queued_more : (p q : ℕ) (at : Place) (es : List Event) → EventsAreApart es
    → waiting_times procurers_of q (event_changed at (with_state (queued p)) es) ≤ waiting_times procurers_of q es + one_if (eqb q p)
queued_more p q at [] apart = omega arith
queued_more p q at (e ∷ es) apart =
    let b = same_place e.place at in
    let more = with_state (queued p) in
    let rest = event_changed at more es in
    elim (cases_Bool b) [
      | inl h ↦
          let none : is_open at es ≡ false = ap (λ x. is_open x es) (sym (same_place_true e.place at h)) ∙ apart.0 in
          let is : waiting_times procurers_of q (event_changed at more (e ∷ es)) ≡ waiting_times procurers_of q (more e ∷ es) =
          ap (λ x. waiting_times procurers_of q (x ∷ rest)) (cond-true b (more e) e h) ∙ ap (λ xs. waiting_times procurers_of q (more e ∷ xs)) (unchanged at more es none) in
          let one = times_in_push q p e.state.procurers in omega arith
      | inr h ↦
          let is : waiting_times procurers_of q (event_changed at more (e ∷ es)) ≡ waiting_times procurers_of q (e ∷ rest) =
          ap (λ x. waiting_times procurers_of q (x ∷ rest)) (cond-false b (more e) e h) in
          let tail = queued_more p q at es apart.1 in
          omega arith
    ]

times_in_filter : (p : ℕ) (r : ℕ → Bool) (xs : List ℕ) → times_in p (filter r xs) ≤ times_in p xs
times_in_filter p r [] = omega arith
times_in_filter p r (x ∷ xs) =
    let rest = times_in_filter p r xs in
    elim (cases_Bool (r x)) [
      | inl e ↦ let is : times_in p (filter r (x ∷ xs)) ≡ times_in p (x ∷ filter r xs) = ap (times_in p) (cond-true (r x) (x ∷ filter r xs) (filter r xs) e) in omega arith
      | inr e ↦ let is : times_in p (filter r (x ∷ xs)) ≡ times_in p (filter r xs) = ap (times_in p) (cond-false (r x) (x ∷ filter r xs) (filter r xs) e) in omega arith
    ]

times_in_drop : (p : ℕ) (xs : List ℕ) → times_in p (drop 1 xs) ≤ times_in p xs
times_in_drop p [] = omega arith
times_in_drop p (x ∷ xs) = omega arith

-- ---- once in each list

abbrev StandsOnce : ℕ → Event → Type 0
StandsOnce p e = times_in p e.state.waiters ≤ 1

all_filter : (p : ℕ) (r : Event → Bool) (es : List Event) → All (StandsOnce p) es → All (StandsOnce p) (filter r es)
all_filter p r es h = All-filter r (StandsOnce p) es h

all_placed : (p : ℕ) (f : Event) (es : List Event) → StandsOnce p f → All (StandsOnce p) es → All (StandsOnce p) (placed f es)
all_placed p f [] k h = All-cons (StandsOnce p) f [] k h
all_placed p f (e ∷ es) k h =
    let first = All-head (StandsOnce p) e es h in
    by_test first (all_placed p f es k (All-tail (StandsOnce p) e es h)) (is_before f.place e.place)
  where
    by_test : StandsOnce p e → All (StandsOnce p) (placed f es) → (b : Bool) → All (StandsOnce p) (cond b (f ∷ e ∷ es) (e ∷ placed f es))
    by_test first rest true = All-cons (StandsOnce p) f (e ∷ es) k h
    by_test first rest false = All-cons (StandsOnce p) e (placed f es) first rest

-- a change after which a process stands once, where it stood once and had to
abbrev StaysOnce : ℕ → (EventState → EventState) → Event → Type 0
StaysOnce p change e = StandsOnce p e → StandsOnce p (with_state change e)

all_changed : (p : ℕ) (at : Place) (change : EventState → EventState) (es : List Event) → All (StaysOnce p change) es → All (StandsOnce p) es
    → All (StandsOnce p) (event_changed at (with_state change) es)
all_changed p at change [] k h = h
all_changed p at change (e ∷ es) k h =
    let one = by_test (same_place e.place at) in
    All-cons (StandsOnce p) _ (event_changed at (with_state change) es) one
    (all_changed p at change es (All-tail (StaysOnce p change) e es k) (All-tail (StandsOnce p) e es h))
  where
    by_test : (b : Bool) → StandsOnce p (cond b (with_state change e) e)
    by_test true = All-head (StaysOnce p change) e es k (All-head (StandsOnce p) e es h)
    by_test false = All-head (StandsOnce p) e es h

all_stay : (p : ℕ) (change : EventState → EventState) → ((s : EventState) → times_in p s.waiters ≤ 1 → times_in p (change s).waiters ≤ 1) → (es : List Event)
    → All (StaysOnce p change) es
all_stay p change k [] = All-nil (StaysOnce p change)
all_stay p change k (e ∷ es) = All-cons (StaysOnce p change) e es (k e.state) (all_stay p change k es)

-- who waited nowhere stands once in the list that it joins
all_joined : (p q : ℕ) (es : List Event) → is_waiting p es ≡ false → All (StaysOnce q (joined p)) es
all_joined p q [] idle = All-nil (StaysOnce q (joined p))
all_joined p q (e ∷ es) idle =
    let parts = or_parts (list_any (eqb p) (e.state.waiters ++ e.state.procurers)) (is_waiting p es) idle in
    let one = times_in_push q p e.state.waiters in
    let step : StaysOnce q (joined p) e = λ k. elim (cases_Bool (eqb q p)) [
      | inl h ↦
          let none = times_in_none p (e.state.waiters ++ e.state.procurers) parts.0 in
          let both = times_join p e.state.waiters e.state.procurers in
          let same : times_in q e.state.waiters ≡ times_in p e.state.waiters = ap (λ n. times_in n e.state.waiters) (eqb-true q p h) in
          let is : one_if (eqb q p) ≡ 1 = cond-true (eqb q p) 1 0 h in omega arith
      | inr h ↦ let is : one_if (eqb q p) ≡ 0 = cond-false (eqb q p) 1 0 h in omega arith
    ] in
    All-cons (StaysOnce q (joined p)) e es step (all_joined p q es parts.1)

-- a change by which nobody stands in a list more often
once_fewer : (at : Place) (change : EventState → EventState) → ((q : ℕ) (s : EventState) → times_in q (change s).waiters ≤ times_in q s.waiters)
    → ((q : ℕ) (s : EventState) → times_in q (change s).procurers ≤ times_in q s.procurers)
    → (es : List Event) → EachOnce es → EachOnce (event_changed at (with_state change) es)
once_fewer at change fewer less es h = record {
  waiting = λ q. all_changed q at change es (all_stay q change (λ s k. let f = fewer q s in omega arith) es) (h.waiting q);
  procuring = λ q. let f = times_fewer procurers_of q at change (less q) es in let k = h.procuring q in omega arith;
}

once_joined : (at : Place) (p : ℕ) (es : List Event) → is_waiting p es ≡ false → EachOnce es → EachOnce (event_changed at (with_state (joined p)) es)
once_joined at p es idle h = record {
  waiting = λ q. all_changed q at (joined p) es (all_joined p q es idle) (h.waiting q);
  procuring = λ q. let f = times_fewer procurers_of q at (joined p) (λ s. omega arith) es in let k = h.procuring q in omega arith;
}

once_queued : (at : Place) (p : ℕ) (es : List Event) → EventsAreApart es → is_waiting p es ≡ false → EachOnce es → EachOnce (event_changed at (with_state (queued p)) es)
once_queued at p es apart idle h = record {
  waiting = λ q. all_changed q at (queued p) es (all_stay q (queued p) (λ s k. k) es) (h.waiting q);
  procuring = λ q.
      let grown = queued_more p q at es apart in
      elim (cases_Bool (eqb q p)) [
        | inl e ↦
            let none : waiting_times all_of q es ≡ 0 = ap (λ k. waiting_times all_of k es) (eqb-true q p e) ∙ times_none p es idle in
            let less = procures_less q es in
            let is : one_if (eqb q p) ≡ 1 = cond-true (eqb q p) 1 0 e in omega arith
        | inr e ↦
            let is : one_if (eqb q p) ≡ 0 = cond-false (eqb q p) 1 0 e in
            let before = h.procuring q in omega arith
      ];
}

once_passed : (at : Place) (xs : List ℕ) (es : List Event) → EachOnce es → EachOnce (event_changed at (with_state (passed_on xs)) es)
once_passed at [] es h = once_fewer at (passed_on []) (λ q s. omega arith) (λ q s. omega arith) es h
once_passed at (x ∷ xs) es h = once_fewer at (passed_on (x ∷ xs)) (λ q s. omega arith) (λ q s. times_in_drop q s.procurers) es h

-- ---- every event is changed alike

once_everywhere : (change : Event → Event) → ((q : ℕ) (e : Event) → times_in q (change e).state.waiters ≤ times_in q e.state.waiters)
    → ((q : ℕ) (e : Event) → times_in q (change e).state.procurers ≤ times_in q e.state.procurers)
    → (es : List Event) → EachOnce es → EachOnce (map change es)
once_everywhere change fewer less es h = record {
  waiting = λ q. All-map (StandsOnce q) change es (All-weaker (StandsOnce q) (λ e. StandsOnce q (change e)) (λ e k. let f = fewer q e in omega arith) es (h.waiting q));
  procuring = λ q. let f = times_mapped procurers_of q change (less q) es in let k = h.procuring q in omega arith;
}

-- who is withdrawn leaves all events
once_withdrawn : (ps : List ℕ) (es : List Event) → EachOnce es → EachOnce (withdrawn ps es)
once_withdrawn [] es h = h
once_withdrawn (p ∷ ps) es h =
    once_withdrawn ps (map (with_state (left_by p)) es)
    (once_everywhere (with_state (left_by p)) (λ q e. times_in_filter q (λ k. not (eqb p k)) e.state.waiters) (λ q e. omega arith) es h)

-- a process joins several events
several_once : (p q : ℕ) (places : List Place) (es : List Event) → is_waiting p es ≡ false → All (StandsOnce q) es → All (StandsOnce q) (joined_all places p es)
several_once p q places [] idle h = h
several_once p q places (e ∷ es) idle h =
    let parts = or_parts (list_any (eqb p) (e.state.waiters ++ e.state.procurers)) (is_waiting p es) idle in
    let stays = all_joined p q (e ∷ es) idle in
    All-cons (StandsOnce q) _ (joined_all places p es)
    (by_test (All-head (StaysOnce q (joined p)) e es stays) (All-head (StandsOnce q) e es h) (event_is_among places e.place))
    (several_once p q places es parts.1 (All-tail (StandsOnce q) e es h))
  where
    by_test : StaysOnce q (joined p) e → StandsOnce q e → (b : Bool) → StandsOnce q (cond b (with_state (joined p) e) e)
    by_test stays one true = stays one
    by_test stays one false = one

several_procures : (p q : ℕ) (places : List Place) (es : List Event) → waiting_times procurers_of q (joined_all places p es) ≤ waiting_times procurers_of q es
several_procures p q places es =
    times_mapped procurers_of q (λ e. cond (event_is_among places e.place) (with_state (joined p) e) e)
    (λ e. by_test e (event_is_among places e.place)) es
  where
    by_test : (e : Event) (b : Bool) → times_in q (cond b (with_state (joined p) e) e).state.procurers ≤ times_in q e.state.procurers
    by_test e true = omega arith
    by_test e false = omega arith

once_several : (places : List Place) (p : ℕ) (es : List Event) → is_waiting p es ≡ false → EachOnce es → EachOnce (joined_all places p es)
once_several places p es idle h = record {
  waiting = λ q. several_once p q places es idle (h.waiting q);
  procuring = λ q. let f = several_procures p q places es in let k = h.procuring q in omega arith;
}

once_deed : (x : EventDeed) (p : ℕ) (at : Place) (es : List Event) → MayWait (deed_at x p at es).next p es → EachOnce es → EachOnce (done_at x p at es)
once_deed (acts act.Cause) p at es may h =
    once_withdrawn (waiters_at at es) (event_changed at (with_state caused) es) (once_fewer at caused (λ q s. omega arith) (λ q s. omega arith) es h)
once_deed (acts act.CauseAndReset) p at es may h =
    once_withdrawn (waiters_at at es) (event_changed at (with_state let_go) es) (once_fewer at let_go (λ q s. omega arith) (λ q s. omega arith) es h)
once_deed (acts act.Reset) p at es may h = once_fewer at _ (λ q s. omega arith) (λ q s. omega arith) es h
once_deed (acts act.Wait) p at es may h = by_flag (happened_at at es) may
  where
    by_flag : (b : Bool) → MayWait (cond b goes waits) p es → EachOnce (changed_by (cond b None (Some (joined p))) at es)
    by_flag true m = h
    by_flag false m = once_joined at p es m.1 h
once_deed (acts act.Procure) p at es may h = by_flag (available_at at es) may
  where
    by_flag : (b : Bool) → MayWait (cond b goes procures) p es → EachOnce (event_changed at (with_state (cond b taken (queued p))) es)
    by_flag true m = once_fewer at taken (λ q s. omega arith) (λ q s. omega arith) es h
    by_flag false m = once_queued at p es m.0 m.1 h
once_deed (acts act.Liberate) p at es may h = once_passed at (procurers_at at es) es h
once_deed (tests test.Happened) p at es may h = h
once_deed (tests test.Available) p at es may h = h
once_deed (tests test.Fix) p at es may h = by_flag (available_at at es)
  where
    by_flag : (b : Bool) → EachOnce (changed_by (cond b (Some taken) None) at es)
    by_flag true = once_fewer at taken (λ q s. omega arith) (λ q s. omega arith) es h
    by_flag false = h
once_deed (tests test.WaitAny) p at es may h = once_joined at p es may.1 h

pub waits_once : EachWaitsOnce
waits_once = record {
  by_deed = once_deed;
  by_several = once_several;
  by_opening = λ at es h. record {
    waiting = λ p.
        all_placed p (fresh at) (filter (λ e. not (same_place e.place at)) es) (omega arith) (all_filter p (λ e. not (same_place e.place at)) es (h.waiting p));
    procuring = λ p.
        let rest = filter (λ (e : Event). not (same_place e.place at)) es in
        let fewer = times_filter procurers_of p (λ e. not (same_place e.place at)) es in
        let one = times_placed procurers_of p (fresh at) rest in
        let before = h.procuring p in omega arith;
  };
  by_closing = λ stack low es h. record {
    waiting = λ p. all_filter p (λ e. not (is_from stack low e.place)) es (h.waiting p);
    procuring = λ p. let fewer = times_filter procurers_of p (λ e. not (is_from stack low e.place)) es in let before = h.procuring p in omega arith;
  };
}

-- ---- who is released waits nowhere

-- who is not among those who wait for an event to happen, nor to procure one, waits nowhere
waiters_none : (p : ℕ) (es : List Event) → is_waiter p es ≡ false → waiting_times waiters_of p es ≡ 0
waiters_none p [] h = refl
waiters_none p (e ∷ es) h =
    let parts = or_parts (list_any (eqb p) e.state.waiters) (is_waiter p es) h in
    let here = times_in_none p e.state.waiters parts.0 in
    let rest = waiters_none p es parts.1 in
    omega arith

both_none : (p : ℕ) (es : List Event) → waiting_times waiters_of p es ≡ 0 → waiting_times procurers_of p es ≡ 0 → is_waiting p es ≡ false
both_none p es unwaited unprocured = waiting_none p es (sum es unwaited unprocured)
  where
    sum : (xs : List Event) → waiting_times waiters_of p xs ≡ 0 → waiting_times procurers_of p xs ≡ 0 → waiting_times all_of p xs ≡ 0
    sum [] h k = refl
    sum (e ∷ xs) h k =
        let both = times_join p e.state.waiters e.state.procurers in
        let rest = sum xs (omega arith) (omega arith) in
        omega arith

-- a process that leaves stands there no more, and no other comes
no_more : (p q : ℕ) (xs : List ℕ) → eqb q p ≡ true → list_any (eqb q) (filter (λ k. not (eqb p k)) xs) ≡ false
no_more p q [] h = refl
no_more p q (x ∷ xs) h =
    let rest = filter (λ k. not (eqb p k)) xs in
    elim (cases_Bool (eqb p x)) [
      | inl e ↦ ap (list_any (eqb q)) (cond-false (not (eqb p x)) (x ∷ rest) rest (not_from_true (eqb p x) e)) ∙ no_more p q xs h
      | inr e ↦
          let other : eqb q x ≡ false = false_from_ne_true (eqb q x) (λ k. both_ways (eqb p x) e (ap (λ m. eqb m x) (sym (eqb-true q p h)) ∙ k)) in
          ap (list_any (eqb q)) (cond-true (not (eqb p x)) (x ∷ rest) rest (not_from_false (eqb p x) e))
          ∙ or_from (eqb q x) (list_any (eqb q) rest) other (no_more p q xs h)
    ]

no_other : (q : ℕ) (r : ℕ → Bool) (xs : List ℕ) → list_any (eqb q) xs ≡ false → list_any (eqb q) (filter r xs) ≡ false
no_other q r xs h = any_filter (eqb q) r xs h

left_none : (p q : ℕ) (es : List Event) → eqb q p ≡ true → is_waiter q (map (with_state (left_by p)) es) ≡ false
left_none p q [] h = refl
left_none p q (e ∷ es) h =
    or_from (list_any (eqb q) (filter (λ k. not (eqb p k)) e.state.waiters)) (is_waiter q (map (with_state (left_by p)) es))
    (no_more p q e.state.waiters h) (left_none p q es h)

left_stays : (p q : ℕ) (es : List Event) → is_waiter q es ≡ false → is_waiter q (map (with_state (left_by p)) es) ≡ false
left_stays p q [] h = refl
left_stays p q (e ∷ es) h =
    let parts = or_parts (list_any (eqb q) e.state.waiters) (is_waiter q es) h in
    or_from (list_any (eqb q) (filter (λ k. not (eqb p k)) e.state.waiters)) (is_waiter q (map (with_state (left_by p)) es))
    (no_other q (λ k. not (eqb p k)) e.state.waiters parts.0) (left_stays p q es parts.1)

withdrawn_stays : (ps : List ℕ) (q : ℕ) (es : List Event) → is_waiter q es ≡ false → is_waiter q (withdrawn ps es) ≡ false
withdrawn_stays [] q es h = h
withdrawn_stays (p ∷ ps) q es h = withdrawn_stays ps q (map (with_state (left_by p)) es) (left_stays p q es h)

withdrawn_none : (ps : List ℕ) (q : ℕ) (es : List Event) → waiter_is_one_of ps q ≡ true → is_waiter q (withdrawn ps es) ≡ false
withdrawn_none [] q es h = cc
withdrawn_none (p ∷ ps) q es h = elim (or_cases (eqb q p) (waiter_is_one_of ps q) h) [
  | inl e ↦ withdrawn_stays ps q (map (with_state (left_by p)) es) (left_none p q es e)
  | inr e ↦ withdrawn_none ps q (map (with_state (left_by p)) es) e
]

-- nobody waits to procure more by that
withdrawn_procures : (ps : List ℕ) (q : ℕ) (es : List Event) → waiting_times procurers_of q (withdrawn ps es) ≤ waiting_times procurers_of q es
withdrawn_procures [] q es = omega arith
withdrawn_procures (p ∷ ps) q es =
    let rest = withdrawn_procures ps q (map (with_state (left_by p)) es) in
    let here = times_mapped procurers_of q (with_state (left_by p)) (λ e. omega arith) es in
    omega arith

-- who stands in a list of the event at a place stands in such lists
there_counted : (lists : EventState → List ℕ) (q : ℕ) (at : Place) → lists (state_of None) ≡ [] → (es : List Event)
    → times_in q (lists (state_of (event_at at es))) ≤ waiting_times lists q es
there_counted lists q at none [] = let nobody : times_in q (lists (state_of None)) ≡ 0 = ap (times_in q) none in omega arith
there_counted lists q at none (e ∷ es) =
    let b = same_place e.place at in
    elim (cases_Bool b) [
      | inl h ↦
          let here : times_in q (lists (state_of (event_at at (e ∷ es)))) ≡ times_in q (lists e.state) =
          ap (λ o. times_in q (lists (state_of o))) (cond-true b (Some e) (event_at at es) h) in omega arith
      | inr h ↦
          let here : times_in q (lists (state_of (event_at at (e ∷ es)))) ≡ times_in q (lists (state_of (event_at at es))) =
          ap (λ o. times_in q (lists (state_of o))) (cond-false b (Some e) (event_at at es) h) in
          let rest = there_counted lists q at none es in omega arith
    ]

-- all who wait for an event are released
released_nowhere : (q : ℕ) (at : Place) (change : EventState → EventState) → ((s : EventState) → (change s).procurers ≡ s.procurers) → (es : List Event)
    → WaitsOneWay q es → waiter_is_one_of (waiters_at at es) q ≡ true → is_waiting q (withdrawn (waiters_at at es) (event_changed at (with_state change) es)) ≡ false
released_nowhere q at change same es one is =
    let ps = waiters_at at es in
    let after = event_changed at (with_state change) es in
    let some = times_in_some q ps is in
    let counted = there_counted waiters_of q at refl es in
    let before : waiting_times procurers_of q es ≡ 0 = elim one [
      | inl none ↦ none
      | inr both ↦ let none = both.0 in absurd (omega (arith, some, counted, none))
    ] in
    let fewer = times_fewer procurers_of q at change (λ s. let is : times_in q (change s).procurers ≡ times_in q s.procurers = ap (times_in q) (same s) in omega arith) es in
    let left = withdrawn_procures ps q after in
    both_none q (withdrawn ps after) (waiters_none q (withdrawn ps after) (withdrawn_none ps q after is)) (omega arith)

pub times_in_first : (p : ℕ) (xs : List ℕ) → times_in p (drop 1 xs) + times_in p (take 1 xs) ≤ times_in p xs
times_in_first p [] = omega arith
times_in_first p (x ∷ xs) = omega arith

-- the first procurer is served
served_less : (q : ℕ) (at : Place) (es : List Event)
    → waiting_times procurers_of q (event_changed at (with_state served) es) + times_in q (take 1 (procurers_at at es)) ≤ waiting_times procurers_of q es
served_less q at [] = omega arith
served_less q at (e ∷ es) =
    let b = same_place e.place at in
    let rest = event_changed at (with_state served) es in
    elim (cases_Bool b) [
      | inl h ↦
          let is : waiting_times procurers_of q (event_changed at (with_state served) (e ∷ es)) ≡ waiting_times procurers_of q (with_state served e ∷ rest) =
          ap (λ x. waiting_times procurers_of q (x ∷ rest)) (cond-true b (with_state served e) e h) in
          let here : times_in q (take 1 (procurers_at at (e ∷ es))) ≡ times_in q (take 1 e.state.procurers) =
          ap (λ o. times_in q (take 1 (state_of o).procurers)) (cond-true b (Some e) (event_at at es) h) in
          let head = times_in_first q e.state.procurers in
          let fewer = times_fewer procurers_of q at served (λ s. times_in_drop q s.procurers) es in
          omega arith
      | inr h ↦
          let is : waiting_times procurers_of q (event_changed at (with_state served) (e ∷ es)) ≡ waiting_times procurers_of q (e ∷ rest) =
          ap (λ x. waiting_times procurers_of q (x ∷ rest)) (cond-false b (with_state served e) e h) in
          let here : times_in q (take 1 (procurers_at at (e ∷ es))) ≡ times_in q (take 1 (procurers_at at es)) =
          ap (λ o. times_in q (take 1 (state_of o).procurers)) (cond-false b (Some e) (event_at at es) h) in
          let tail = served_less q at es in
          omega arith
    ]

served_nowhere : (q : ℕ) (at : Place) (es : List Event) → WaitsOneWay q es → waiter_is_one_of (take 1 (procurers_at at es)) q ≡ true
    → is_waiting q (event_changed at (with_state (passed_on (procurers_at at es))) es) ≡ false
served_nowhere q at es one is = by_list (procurers_at at es) refl
  where
    by_list : (xs : List ℕ) → procurers_at at es ≡ xs → is_waiting q (event_changed at (with_state (passed_on xs)) es) ≡ false
    by_list [] e = let no : waiter_is_one_of (take 1 (procurers_at at es)) q ≡ false = ap (λ ys. waiter_is_one_of (take 1 ys) q) e in absurd (both_ways (waiter_is_one_of (take 1 (procurers_at at es)) q) no is)
    by_list (x ∷ xs) e =
        let some = times_in_some q (take 1 (procurers_at at es)) is in
        let less = served_less q at es in
        let fewer = times_fewer waiters_of q at served (λ s. omega arith) es in
        elim one [
          | inl none ↦ absurd (omega (arith, some, less, none))
          | inr both ↦
              let no = both.0 in
              let once = both.1 in
              both_none q (event_changed at (with_state served) es) (omega (arith, fewer, no)) (omega (arith, less, some, once))
        ]

nobody_withdrawn : (x : EventDeed) (p q : ℕ) (at : Place) (es : List Event) → waiter_is_one_of (deed_at x p at es).withdraws q ≡ true → is_waiter q (done_at x p at es) ≡ false
nobody_withdrawn (acts act.Cause) p q at es is = withdrawn_none (waiters_at at es) q (event_changed at (with_state caused) es) is
nobody_withdrawn (acts act.CauseAndReset) p q at es is = withdrawn_none (waiters_at at es) q (event_changed at (with_state let_go) es) is
nobody_withdrawn (acts act.Reset) p q at es is = cc
nobody_withdrawn (acts act.Wait) p q at es is = cc
nobody_withdrawn (acts act.Procure) p q at es is = cc
nobody_withdrawn (acts act.Liberate) p q at es is = cc
nobody_withdrawn (tests test.Happened) p q at es is = cc
nobody_withdrawn (tests test.Available) p q at es is = cc
nobody_withdrawn (tests test.Fix) p q at es is = cc
nobody_withdrawn (tests test.WaitAny) p q at es is = cc

freed_nowhere : (x : EventDeed) (p q : ℕ) (at : Place) (es : List Event) → WaitsOneWay q es → waiter_is_one_of (deed_at x p at es).frees q ≡ true
    → is_waiting q (done_at x p at es) ≡ false
freed_nowhere (acts act.Cause) p q at es one is = released_nowhere q at caused (λ s. refl) es one is
freed_nowhere (acts act.CauseAndReset) p q at es one is = released_nowhere q at let_go (λ s. refl) es one is
freed_nowhere (acts act.Reset) p q at es one is = cc
freed_nowhere (acts act.Wait) p q at es one is = cc
freed_nowhere (acts act.Procure) p q at es one is = cc
freed_nowhere (acts act.Liberate) p q at es one is = served_nowhere q at es one is
freed_nowhere (tests test.Happened) p q at es one is = cc
freed_nowhere (tests test.Available) p q at es one is = cc
freed_nowhere (tests test.Fix) p q at es one is = cc
freed_nowhere (tests test.WaitAny) p q at es one is = cc

pub wait_nowhere : ReleasedWaitNowhere
wait_nowhere = record { withdrawn = nobody_withdrawn; freed = freed_nowhere }
