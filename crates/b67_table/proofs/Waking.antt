-- What is done with an event keeps an image valid.
use Rattle.std.proofs.Common.{◌≡◌, ◌≢◌, refl, sym, ap, subst, ◌∙◌, ◌⊎◌, ℕ, ◌≤◌, ◌==◌, Bool, true, false, cond, eqb, List, [], ◌∷◌, length, take, All, Option, Some, None, inl, inr, arith}
use Rattle.std.specs.List.{list_any}
use Rattle.std.specs.Option.{option_map}
use Rattle.std.proofs.Math.Decide.{ℕ_discrete}
use Rattle.std.proofs.lemmas.Bool.{cases_Bool, cond-true, or_cases, eqb-true, eq-eqb}
use Rattle.std.proofs.lemmas.List.Elements.{All-head, All-tail}
use Rattle.b67_list.specs.Numbered.{numbered}
use Rattle.b67_list.proofs.Truths.{not_both}
use Rattle.b67_word.specs.declared.Place.{Place}
use Rattle.b67_segment.specs.declared.code.Code.{Code}
use Rattle.b67_deeds.specs.declared.EventAct.TheVariants as act
use Rattle.b67_deeds.specs.declared.EventTest.TheVariants as test
use Rattle.b67_deeds.specs.Events.{EventState}
use Rattle.b67_deeds.specs.Listed.{IsListed, AreOnce}
use Rattle.b67_deeds.specs.Deeds.{EventDeed, acts, tests, Deed, Next, goes, waits as awaits, procures as queues, deed, after_change}
use Rattle.b67_deeds.proofs.Lists.{Lists, deed_lists}
use Rattle.b67_events.specs.Events.{Event, same_place, event_at, state_of, state_at, waiters_at, procurers_at, with_state, changed_by, deed_at, after_deed, done_at, list_of, is_listed, unlisted}
use Rattle.b67_events.specs.Laws.{EventsAreApart}
use Rattle.b67_events.specs.Once.{MayWait, times_in, waiting_times, procurers_of, waiters_of}
use Rattle.b67_events.proofs.Listed.{same_place_true, same_place_self}
use Rattle.b67_events.proofs.EventLaws.{one_event, stay_apart}
use Rattle.b67_events.proofs.OnceLaws.{waits_once, times_in_some}
use Rattle.b67_table.specs.declared.ProcessState.{ProcessState}
use Rattle.b67_table.specs.declared.ProcessState.TheVariants.{Able, WaitsFor, WaitsAny, Procures, Ended}
use Rattle.b67_table.specs.Image.{Image, is_able, is_live}
use Rattle.b67_table.specs.Limits.{most_events}
use Rattle.b67_table.specs.Writes.{Write, write_made, able_again, waiting, states_after, told_positions}
use Rattle.b67_table.specs.Writes as writes
use Rattle.b67_table.specs.Valid.{IsValid, AwaitsAt, AreEvents, waits}
use Rattle.b67_table.proofs.Stacks.{get_numbered_other}
use Rattle.b67_table.proofs.Lists.{numbered_set}
use Rattle.b67_table.proofs.EventKept.{Among, or_left, or_right, length_states, length_again, same_state, live_of, within_of, again_live, able_waits, awaits_waits, nowhere, waiting_valid}
use Rattle.b67_table.proofs.Withdrawing.{withdrawn_waiters, withdrawn_procurers, withdrawn_apart, unlisted_here, unlisted_other, told_length, told_small}

-- ---- who is in a list

listed_of : (q : ℕ) (xs : List ℕ) → Among q xs → IsListed xs q
listed_of q [] i = absurd (not_both false i refl)
listed_of q (x ∷ xs) i = elim (or_cases (q == x) (list_any (λ y. q == y) xs) i) [
  | inl j ↦ inl (sym (eqb-true q x j))
  | inr j ↦ inr (listed_of q xs j)
]

among_of : (q : ℕ) (xs : List ℕ) → IsListed xs q → Among q xs
among_of q [] i = absurd i
among_of q (x ∷ xs) (◌⊎◌.inl e) = or_left (q == x) (list_any (λ y. q == y) xs) (eq-eqb q x (sym e))
among_of q (x ∷ xs) (◌⊎◌.inr i) = or_right (q == x) (list_any (λ y. q == y) xs) (among_of q xs i)

abbrev one_if : Bool → ℕ
one_if b = cond b 1 0

once_of : (xs : List ℕ) → ((q : ℕ) → times_in q xs ≤ 1) → AreOnce xs
once_of [] k = tt
once_of (x ∷ xs) k = (
  λ m.
      let more = times_in_some x xs (among_of x xs m) in
      let is : one_if (eqb x x) ≡ 1 = cond-true (eqb x x) 1 0 (eq-eqb x x refl) in
      absurd (omega (arith, k x)),
  once_of xs (λ q. omega (arith, k q)),
)

-- ---- the lists of the event that is changed

-- the list of the event at a place is one of the lists
times_here : (q : ℕ) (at : Place) (es : List Event) → times_in q (procurers_at at es) ≤ waiting_times procurers_of q es
times_here q at [] = omega arith
times_here q at (e ∷ es) = by_test (times_here q at es) (same_place e.place at)
  where
    by_test : times_in q (procurers_at at es) ≤ waiting_times procurers_of q es → (b : Bool) → times_in q (state_of (cond b (Some e) (event_at at es))).procurers ≤ waiting_times procurers_of q (e ∷ es)
    by_test later true = omega arith
    by_test later false = omega (arith, later)

abbrev StandsOnce : ℕ → Event → Type 0
StandsOnce q e = times_in q e.state.waiters ≤ 1

waits_here_once : (q : ℕ) (at : Place) (es : List Event) → All (StandsOnce q) es → times_in q (waiters_at at es) ≤ 1
waits_here_once q at [] h = omega arith
waits_here_once q at (e ∷ es) h = by_test (waits_here_once q at es (All-tail (StandsOnce q) e es h)) (same_place e.place at)
  where
    by_test : times_in q (waiters_at at es) ≤ 1 → (b : Bool) → times_in q (state_of (cond b (Some e) (event_at at es))).waiters ≤ 1
    by_test later true = All-head (StandsOnce q) e es h
    by_test later false = later

module _ (lists : EventState → List ℕ) (none : lists (state_of None) ≡ []) (q : ℕ) (at : Place) (es : List Event) where
  -- who stands in a list of the event after a change of its state
  list_after : (change : Option (EventState → EventState)) → Among q (lists (state_at at (changed_by change at es)))
      → Among q (lists (after_change change (state_at at es)))
  list_after None i = i
  list_after (Some change) i =
      by_event (event_at at es) (ap (λ o. list_any (λ p. q == p) (lists (state_of o))) (sym (one_event.here at (with_state change) (λ e. refl) es)) ∙ i)
    where
      by_event : (o : Option Event) → Among q (lists (state_of (option_map (with_state change) o))) → Among q (lists (change (state_of o)))
      by_event None j = absurd (not_both (list_any (λ p. q == p) (lists (state_of None))) j (ap (list_any (λ p. q == p)) none))
      by_event (Some e) j = j

  -- who stands in a list that is not changed
  list_stays : (to : Place) → to ≢ at → (change : Option (EventState → EventState)) → Among q (lists (state_at to (changed_by change at es)))
      → Among q (lists (state_at to es))
  list_stays to apart None i = i
  list_stays to apart (Some change) i =
      ap (λ o. list_any (λ p. q == p) (lists (state_of o))) (sym (one_event.elsewhere at to (with_state change) (λ e. refl) apart es)) ∙ i

-- who is freed waits for no other event any more either, or stood there to procure it
freed_leaves : (x : EventDeed) (p : ℕ) (e : EventState) (k : ℕ) → IsListed (deed x p e).frees k → IsListed (deed x p e).withdraws k ⊎ IsListed e.procurers k
freed_leaves (acts act.Cause) p e k n = inl n
freed_leaves (acts act.CauseAndReset) p e k n = inl n
freed_leaves (acts act.Reset) p e k n = absurd n
freed_leaves (acts act.Wait) p e k n = absurd n
freed_leaves (acts act.Procure) p e k n = absurd n
freed_leaves (acts act.Liberate) p e k n = inr (by_list e.procurers n)
  where
    by_list : (xs : List ℕ) → IsListed (take 1 xs) k → IsListed xs k
    by_list [] m = absurd m
    by_list (x ∷ xs) (◌⊎◌.inl m) = inl m
    by_list (x ∷ xs) (◌⊎◌.inr m) = absurd m
freed_leaves (tests test.Happened) p e k n = absurd n
freed_leaves (tests test.Available) p e k n = absurd n
freed_leaves (tests test.Fix) p e k n = absurd n
freed_leaves (tests test.WaitAny) p e k n = absurd n

-- ---- a deed

pub able_live : (o : Option ProcessState) → is_able o ≡ true → is_live o ≡ true
able_live (Some Able) e = refl
able_live (Some Ended) e = cc
able_live (Some (WaitsFor x)) e = cc
able_live (Some WaitsAny) e = cc
able_live (Some (Procures x)) e = cc
able_live None e = cc

awaits_procures : (o : Option ProcessState) (places : List Place) (to y : Place) → AwaitsAt o places to → o ≡ Some (Procures y) → ⊥
awaits_procures (Some (WaitsFor x)) places to y a e = cc
awaits_procures (Some WaitsAny) places to y a e = cc
awaits_procures (Some (Procures x)) places to y a e = a
awaits_procures (Some Able) places to y a e = a
awaits_procures (Some Ended) places to y a e = a
awaits_procures None places to y a e = a

procures_one : (o : Option ProcessState) (x y : Place) → o ≡ Some (Procures x) → o ≡ Some (Procures y) → x ≡ y
procures_one o x y i j = let same : Some (Procures x) ≡ Some (Procures y) = sym i ∙ j in cc

procures_any : (o : Option ProcessState) (x : Place) → o ≡ Some (Procures x) → o ≡ Some WaitsAny → ⊥
procures_any o x i j = let same : Some (Procures x) ≡ Some WaitsAny = sym i ∙ j in cc

module _ (es : List Event) (lists : List (List Place)) (xs : List ProcessState) (v : AreEvents es lists xs) (p : ℕ) (able : is_able (numbered xs p) ≡ true)
    (at : Place) where
  -- ---- the states afterwards

  inside : (1 ≤ p) × (p ≤ length xs)
  inside = within_of xs p (able_live (numbered xs p) able)

  length_by : (next : Next) → length (waiting next at p xs) ≡ length xs
  length_by goes = refl
  length_by awaits = length_states xs p (WaitsFor at)
  length_by queues = length_states xs p (Procures at)

  other_by : (next : Next) (q : ℕ) → q ≢ p → numbered (waiting next at p xs) q ≡ numbered xs q
  other_by goes q n = refl
  other_by awaits q n = get_numbered_other xs p q (WaitsFor at) n
  other_by queues q n = get_numbered_other xs p q (Procures at) n

  own_live : (next : Next) → is_live (numbered (waiting next at p xs) p) ≡ true
  own_live goes = able_live (numbered xs p) able
  own_live awaits = ap is_live (numbered_set xs p (WaitsFor at) inside.0 inside.1)
  own_live queues = ap is_live (numbered_set xs p (Procures at) inside.0 inside.1)

  live_by : (next : Next) (q : ℕ) → Dec (q ≡ p) → is_live (numbered (waiting next at p xs) q) ≡ is_live (numbered xs q)
  live_by next q (no n) = ap is_live (other_by next q n)
  live_by next q (yes e) =
      subst (λ (m : ℕ). is_live (numbered (waiting next at p xs) m) ≡ is_live (numbered xs m)) (sym e) (own_live next ∙ sym (able_live (numbered xs p) able))

  -- who waits is another process
  another : (q : ℕ) → waits (numbered xs q) ≡ true → q ≢ p
  another q w e = able_waits (numbered xs p) able (subst (λ (m : ℕ). waits (numbered xs m) ≡ true) e w)

  awaits_here : (q : ℕ) (to : Place) → Among q (waiters_at to es) → waits (numbered xs q) ≡ true
  awaits_here q to i = awaits_waits (numbered xs q) (list_of q lists) to (v.waiters q to i)

  module _ (x : EventDeed) where
    d : Deed
    d = deed_at x p at es

    are : Lists p (state_at at es) (deed_at x p at es)
    are =
        deed_lists p (state_at at es)
        (once_of (procurers_at at es) (λ q. omega (arith, times_here q at es, v.once.procuring q)))
        (once_of (waiters_at at es) (λ q. waits_here_once q at es (v.once.waiting q)))
        (λ k m n.
        awaits_procures (numbered xs k) (list_of k lists) at at (v.waiters k at (among_of k (waiters_at at es) m))
        (v.procurers k at (among_of k (procurers_at at es) n)))
        (λ m. able_waits (numbered xs p) able (ap waits (v.procurers p at (among_of p (procurers_at at es) m))))
        (λ m. able_waits (numbered xs p) able (awaits_here p at (among_of p (waiters_at at es) m))) x

    -- who is freed, and may stand in other lists, stood there to procure the event
    freed_by : (q : ℕ) → Among q d.frees → Among q d.withdraws ⊎ Among q (procurers_at at es)
    unfolding d
    freed_by q i = elim (freed_leaves x p (state_at at es) q (listed_of q (deed_at x p at es).frees i)) [
      | inl k ↦ inl (among_of q (deed_at x p at es).withdraws k)
      | inr k ↦ inr (among_of q (procurers_at at es) k)
    ]

    freed_waits : (q : ℕ) → Among q d.frees → waits (numbered xs q) ≡ true
    unfolding d
    freed_waits q i = elim (are.freed q (listed_of q (deed_at x p at es).frees i)) [
      | inl k ↦ awaits_here q at (among_of q (waiters_at at es) k)
      | inr k ↦ ap waits (v.procurers q at (among_of q (procurers_at at es) k))
    ]

    after : List ProcessState
    after = states_after d at p xs

    left : List (List Place)
    left = unlisted d.withdraws lists

    not_freed : Among p d.frees → ⊥
    not_freed i = able_waits (numbered xs p) able (freed_waits p i)

    stays : (q : ℕ) (ys : List ProcessState) → (Among q d.frees → ⊥) → numbered (able_again d.frees ys) q ≡ numbered ys q
    stays q ys n = elim (cases_Bool (list_any (λ x. q == x) d.frees)) [ inl i ↦ absurd (n i) | inr i ↦ same_state d.frees ys q i ]

    -- who waits, and is not released, waits on
    waits_on : (q : ℕ) → waits (numbered xs q) ≡ true → (Among q d.frees → ⊥) → numbered after q ≡ numbered xs q
    unfolding after
    waits_on q w n = stays q (waiting d.next at p xs) n ∙ other_by d.next q (another q w)

    awaits_on : (q : ℕ) (to : Place) → AwaitsAt (numbered xs q) (list_of q lists) to → (Among q d.withdraws → ⊥) → (Among q d.frees → ⊥)
        → AwaitsAt (numbered after q) (list_of q left) to
    unfolding left
    awaits_on q to a w n =
        subst (λ (o : Option ProcessState). AwaitsAt o (list_of q (unlisted d.withdraws lists)) to)
        (sym (waits_on q (awaits_waits (numbered xs q) (list_of q lists) to a) n))
        (subst (λ (places : List Place). AwaitsAt (numbered xs q) places to) (sym (unlisted_other q d.withdraws lists w)) a)

    waits_here : d.next ≡ awaits → numbered after p ≡ Some (WaitsFor at)
    unfolding after
    waits_here e =
        stays p (waiting d.next at p xs) not_freed ∙ ap (λ n. numbered (waiting n at p xs) p) e ∙ numbered_set xs p (WaitsFor at) inside.0 inside.1

    queues_here : d.next ≡ queues → numbered after p ≡ Some (Procures at)
    unfolding after
    queues_here e =
        stays p (waiting d.next at p xs) not_freed ∙ ap (λ n. numbered (waiting n at p xs) p) e ∙ numbered_set xs p (Procures at) inside.0 inside.1

    same_live : (q : ℕ) → is_live (numbered after q) ≡ is_live (numbered xs q)
    unfolding after
    same_live q =
        again_live d.frees (waiting d.next at p xs) q
        (λ k i. live_by d.next k (ℕ_discrete k p) ∙ live_of (numbered xs k) (freed_waits k i)) ∙ live_by d.next q (ℕ_discrete q p)

    same_length : length after ≡ length xs
    unfolding after
    same_length = length_again d.frees (waiting d.next at p xs) ∙ length_by d.next

    -- ---- the lists afterwards

    waiters_wait : (q : ℕ) (to : Place) → Among q (waiters_at to (after_deed d at es)) → AwaitsAt (numbered after q) (list_of q left) to
    unfolding d
    waiters_wait q to i =
        let w = withdrawn_waiters q to d.withdraws (changed_by d.change at es) i in
        elim (cases_Bool (same_place to at)) [
          | inl h ↦
              let same = same_place_true to at h in
              let there = list_after waiters_of refl q at es d.change (ap (λ x. list_any (λ y. q == y) (waiters_at x (changed_by d.change at es))) (sym same) ∙ w.0) in
              subst (λ (x : Place). AwaitsAt (numbered after q) (list_of q left) x) (sym same)
              (elim (are.waiters q (listed_of q _ there)) [
                | inl k ↦ awaits_on q at (v.waiters q at (among_of q (waiters_at at es) k.0)) w.1 (λ j. k.1 (listed_of q d.frees j))
                | inr k ↦
                    subst (λ (o : Option ProcessState). AwaitsAt o (list_of q left) at) (sym (ap (numbered after) (sym k.1) ∙ waits_here k.0)) refl
              ])
          | inr h ↦
              let apart : to ≢ at = λ e. not_both (same_place to at) (same_place_self to at e) h in
              let is = v.waiters q to (list_stays waiters_of refl q at es to apart d.change w.0) in
              awaits_on q to is w.1 (λ j. elim (freed_by q j) [
                | inl k ↦ w.1 k
                | inr k ↦ awaits_procures (numbered xs q) (list_of q lists) to at is (v.procurers q at k)
              ])
        ]

    procurers_wait : (q : ℕ) (to : Place) → Among q (procurers_at to (after_deed d at es)) → numbered after q ≡ Some (Procures to)
    unfolding d
    procurers_wait q to j =
        let i = ap (list_any (λ y. q == y)) (sym (withdrawn_procurers to d.withdraws (changed_by d.change at es))) ∙ j in
        elim (cases_Bool (same_place to at)) [
          | inl h ↦
              let same = same_place_true to at h in
              let there = list_after procurers_of refl q at es d.change (ap (λ x. list_any (λ y. q == y) (procurers_at x (changed_by d.change at es))) (sym same) ∙ i) in
              subst (λ (x : Place). numbered after q ≡ Some (Procures x)) (sym same)
              (elim (are.procurers q (listed_of q _ there)) [
                | inl k ↦
                    let is = v.procurers q at (among_of q (procurers_at at es) k.0) in
                    waits_on q (ap waits is) (λ m. k.1 (listed_of q d.frees m)) ∙ is
                | inr k ↦ ap (numbered after) (sym k.1) ∙ queues_here k.0
              ])
          | inr h ↦
              let apart : to ≢ at = λ e. not_both (same_place to at) (same_place_self to at e) h in
              let is = v.procurers q to (list_stays procurers_of refl q at es to apart d.change i) in
              waits_on q (ap waits is) (λ m. elim (freed_by q m) [
                | inl k ↦
                    let waited = (are.withdrawn q (listed_of q d.withdraws k)).0 in
                    awaits_procures (numbered xs q) (list_of q lists) at to (v.waiters q at (among_of q (waiters_at at es) waited)) is
                | inr k ↦ apart (procures_one (numbered xs q) to at is (v.procurers q at k))
              ]) ∙ is
        ]

    listed_on : (q : ℕ) → is_listed q left ≡ true → numbered after q ≡ Some WaitsAny
    unfolding left
    listed_on q i = elim (cases_Bool (list_any (λ y. q == y) d.withdraws)) [
      | inl k ↦ absurd (not_both (is_listed q left) i (ap (list_any (λ (z : Place). true)) (unlisted_here q d.withdraws lists k)))
      | inr k ↦
          let out : Among q d.withdraws → ⊥ = λ m. not_both (list_any (λ y. q == y) d.withdraws) m k in
          let is = v.listed q (ap (list_any (λ (z : Place). true)) (sym (unlisted_other q d.withdraws lists out)) ∙ i) in
          waits_on q (ap waits is) (λ m. elim (freed_by q m) [
            | inl n ↦ out n
            | inr n ↦ procures_any (numbered xs q) at (v.procurers q at n) is
          ]) ∙ is
    ]

    short_on : (q : ℕ) → length (list_of q left) ≤ most_events
    unfolding left
    short_on q = elim (cases_Bool (list_any (λ y. q == y) d.withdraws)) [
      | inl k ↦ subst (λ (places : List Place). length places ≤ most_events) (sym (unlisted_here q d.withdraws lists k)) (omega arith)
      | inr k ↦
          subst (λ (places : List Place). length places ≤ most_events)
          (sym (unlisted_other q d.withdraws lists (λ m. not_both (list_any (λ y. q == y) d.withdraws) m k))) (v.short q)
    ]

    may_wait : (next : Next) → MayWait next p es
    may_wait goes = tt
    may_wait awaits = (v.apart, nowhere es lists xs v p able)
    may_wait queues = (v.apart, nowhere es lists xs v p able)

    apart_after : (change : Option (EventState → EventState)) → EventsAreApart (changed_by change at es)
    apart_after None = v.apart
    apart_after (Some change) = stay_apart.by_change at (with_state change) (λ e. refl) es v.apart

    pub deed_kept : AreEvents (done_at x p at es) (unlisted (deed_at x p at es).withdraws lists) (states_after (deed_at x p at es) at p xs)
    unfolding d after left
    deed_kept = record {
      apart = withdrawn_apart (deed_at x p at es).withdraws (changed_by (deed_at x p at es).change at es) (apart_after (deed_at x p at es).change);
      once = waits_once.by_deed x p at es (may_wait (deed_at x p at es).next) v.once;
      waiters = waiters_wait;
      procurers = procurers_wait;
      listed = listed_on;
      short = short_on;
    }

    pub deed_live : (q : ℕ) → is_live (numbered (states_after (deed_at x p at es) at p xs) q) ≡ is_live (numbered xs q)
    unfolding d after
    deed_live q = same_live q

    pub deed_length : length (states_after (deed_at x p at es) at p xs) ≡ length xs
    unfolding d after
    deed_length = same_length

-- ---- images

module _ (code : Code) (img : Image) (v : IsValid code img) (p : ℕ) (able : is_able (numbered img.states p) ≡ true) (x : EventDeed) (at : Place) where
  pub event_deed_valid : IsValid code (write_made p (writes.event_deed x at) img)
  event_deed_valid =
      waiting_valid code img v (done_at x p at img.events) (unlisted (deed_at x p at img.events).withdraws img.lists)
      (states_after (deed_at x p at img.events) at p img.states) (told_positions at img.lists (deed_at x p at img.events).withdraws img.numbers)
      (deed_length img.events img.lists img.states v.events p able at x)
      (told_length at img.lists (deed_at x p at img.events).withdraws img.numbers)
      (told_small at img.lists v.events.short (deed_at x p at img.events).withdraws img.numbers v.positions)
      (deed_live img.events img.lists img.states v.events p able at x)
      (deed_kept img.events img.lists img.states v.events p able at x)

  pub event_deed_live : (q : ℕ) → is_live (numbered (write_made p (writes.event_deed x at) img).states q) ≡ is_live (numbered img.states q)
  event_deed_live q = deed_live img.events img.lists img.states v.events p able at x q
