-- A wait for several events, and going on after it, keep an image valid.
use Rattle.std.proofs.Common.{◌≡◌, ◌≢◌, refl, sym, ap, subst, ◌∙◌, ◌⊎◌, ℕ, zero, suc, ◌+◌, ◌≤◌, ◌==◌, Bool, true, false, cond, eqb, List, [], ◌∷◌, ◌++◌, length, All, Option, Some, None, inl, inr, arith}
use Rattle.std.specs.List.{list_any}
use Rattle.std.specs.Option.{option_map}
use Rattle.std.proofs.Math.Decide.{ℕ_discrete}
use Rattle.std.proofs.lemmas.Bool.{cases_Bool, cond-true, cond-false, or_cases, or_parts, eqb-true}
use Rattle.std.proofs.lemmas.List.Elements.{All-cons, All-head, All-tail}
use Rattle.b67_list.specs.Numbered.{numbered, set_numbered}
use Rattle.b67_word.specs.declared.Place.{Place}
use Rattle.b67_segment.specs.declared.code.Code.{Code}
use Rattle.b67_deeds.specs.Events.{joined}
use Rattle.b67_events.specs.Events.{Event, same_place, event_at, state_of, is_waiting, waiters_at, procurers_at, with_state, event_is_among, joined_all, list_of, is_listed, with_list}
use Rattle.b67_events.specs.Laws.{StaysInPlace}
use Rattle.b67_events.specs.Once.{EachOnce, times_in, waiting_times, procurers_of}
use Rattle.b67_events.proofs.Listed.{same_place_true}
use Rattle.b67_events.proofs.OnceLaws.{times_in_none}
use Rattle.b67_table.specs.declared.ProcessState.{ProcessState}
use Rattle.b67_table.specs.declared.ProcessState.TheVariants.{WaitsAny}
use Rattle.b67_table.specs.Image.{Image, woken_number, is_able, is_live}
use Rattle.b67_table.specs.Limits.{most_events}
use Rattle.b67_table.specs.Writes.{write_made}
use Rattle.b67_table.specs.Writes as writes
use Rattle.b67_table.specs.Valid.{IsValid, AwaitsAt, AreEvents, waits}
use Rattle.b67_table.proofs.Stacks.{get_numbered_other}
use Rattle.b67_table.proofs.Lists.{numbered_set}
use Rattle.b67_table.proofs.EventKept.{Among, or_left, or_right, length_states, within_of, able_waits, awaits_waits, nowhere, waiting_valid}
use Rattle.b67_table.proofs.Withdrawing.{mapped_at, mapped_apart, AreSmall, number_set, length_set}
use Rattle.b67_table.proofs.Waking.{able_live}

-- ---- who joins the waiters of some events

-- who joins a list
any_one : (q p : ℕ) (xs : List ℕ) → Among q (xs ++ p ∷ []) → Among q xs ⊎ (q ≡ p)
any_one q p [] e = elim (or_cases (q == p) false e) [ inl j ↦ inr (eqb-true q p j) | inr j ↦ inl j ]
any_one q p (x ∷ xs) e = elim (or_cases (q == x) (list_any (λ y. q == y) (xs ++ p ∷ [])) e) [
  | inl j ↦ inl (or_left (q == x) (list_any (λ y. q == y) xs) j)
  | inr j ↦ elim (any_one q p xs j) [ inl k ↦ inl (or_right (q == x) (list_any (λ y. q == y) xs) k) | inr k ↦ inr k ]
]

pub event_place : (to : Place) (es : List Event) (e : Event) → event_at to es ≡ Some e → e.place ≡ to
event_place to [] e h = cc
event_place to (x ∷ es) e h = by_test (event_place to es e) (same_place x.place to) refl h
  where
    by_test : (event_at to es ≡ Some e → e.place ≡ to) → (b : Bool) → same_place x.place to ≡ b → cond b (Some x) (event_at to es) ≡ Some e → e.place ≡ to
    by_test later true g i = let same : x ≡ e = cc in sym (ap (λ (y : Event). y.place) same) ∙ same_place_true x.place to g
    by_test later false g i = later i

abbrev one_if : Bool → ℕ
one_if b = cond b 1 0

times_push : (q p : ℕ) (xs : List ℕ) → times_in q (xs ++ p ∷ []) ≡ times_in q xs + one_if (eqb q p)
times_push q p [] = omega arith
times_push q p (x ∷ xs) = let rest = times_push q p xs in omega arith

times_both : (p : ℕ) (xs ys : List ℕ) → times_in p xs ≤ times_in p (xs ++ ys)
times_both p [] ys = omega arith
times_both p (x ∷ xs) ys = omega (arith, times_both p xs ys)

abbrev StandsOnce : ℕ → Event → Type 0
StandsOnce q e = times_in q e.state.waiters ≤ 1

module _ (places : List Place) (p : ℕ) where
  abbrev join : Event → Event
  join e = cond (event_is_among places e.place) (with_state (joined p) e) e

  join_stays : StaysInPlace (λ e. cond (event_is_among places e.place) (with_state (joined p) e) e)
  join_stays e = by_test (event_is_among places e.place)
    where
      by_test : (b : Bool) → (cond b (with_state (joined p) e) e).place ≡ e.place
      by_test true = refl
      by_test false = refl

  joined_waiters : (q : ℕ) (to : Place) (es : List Event) → Among q (waiters_at to (joined_all places p es))
      → Among q (waiters_at to es) ⊎ ((q ≡ p) × (event_is_among places to ≡ true))
  joined_waiters q to es i =
      by_event (event_at to es) refl (ap (λ o. list_any (λ x. q == x) (state_of o).waiters) (sym (mapped_at join join_stays to es)) ∙ i)
    where
      by_event : (o : Option Event) → event_at to es ≡ o → Among q (state_of (option_map (join) o)).waiters
          → Among q (state_of o).waiters ⊎ ((q ≡ p) × (event_is_among places to ≡ true))
      by_event None h j = inl j
      by_event (Some e) h j = by_test (event_is_among places e.place) refl j
        where
          by_test : (b : Bool) → event_is_among places e.place ≡ b → Among q (cond b (with_state (joined p) e) e).state.waiters
              → Among q e.state.waiters ⊎ ((q ≡ p) × (event_is_among places to ≡ true))
          by_test true g k = elim (any_one q p e.state.waiters k) [
            | inl m ↦ inl m
            | inr m ↦ inr (m, ap (event_is_among places) (sym (event_place to es e h)) ∙ g)
          ]
          by_test false g k = inl k

  join_procurers : (e : Event) → (cond (event_is_among places e.place) (with_state (joined p) e) e).state.procurers ≡ e.state.procurers
  join_procurers e = by_test (event_is_among places e.place)
    where
      by_test : (b : Bool) → (cond b (with_state (joined p) e) e).state.procurers ≡ e.state.procurers
      by_test true = refl
      by_test false = refl

  joined_procurers : (to : Place) (es : List Event) → procurers_at to (joined_all places p es) ≡ procurers_at to es
  joined_procurers to es = ap (λ o. (state_of o).procurers) (mapped_at join join_stays to es) ∙ by_event (event_at to es)
    where
      by_event : (o : Option Event) → (state_of (option_map join o)).procurers ≡ (state_of o).procurers
      by_event None = refl
      by_event (Some e) = join_procurers e

  all_once : (q : ℕ) (es : List Event) → is_waiting p es ≡ false → All (StandsOnce q) es → All (StandsOnce q) (joined_all places p es)
  all_once q [] idle h = h
  all_once q (e ∷ es) idle h =
      let parts = or_parts (list_any (eqb p) (e.state.waiters ++ e.state.procurers)) (is_waiting p es) idle in
      All-cons (StandsOnce q) (cond (event_is_among places e.place) (with_state (joined p) e) e) (joined_all places p es)
      (by_test (event_is_among places e.place) parts.0) (all_once q es parts.1 (All-tail (StandsOnce q) e es h))
    where
      by_test : (b : Bool) → list_any (eqb p) (e.state.waiters ++ e.state.procurers) ≡ false → StandsOnce q (cond b (with_state (joined p) e) e)
      by_test true none = elim (cases_Bool (eqb q p)) [
        | inl k ↦
            let no = times_in_none p (e.state.waiters ++ e.state.procurers) none in
            let less = times_both p e.state.waiters e.state.procurers in
            let same : times_in q e.state.waiters ≡ times_in p e.state.waiters = ap (λ n. times_in n e.state.waiters) (eqb-true q p k) in
            let is : one_if (eqb q p) ≡ 1 = cond-true (eqb q p) 1 0 k in
            omega (arith, times_push q p e.state.waiters)
        | inr k ↦
            let is : one_if (eqb q p) ≡ 0 = cond-false (eqb q p) 1 0 k in
            let one = All-head (StandsOnce q) e es h in
            omega (arith, times_push q p e.state.waiters)
      ]
      by_test false none = All-head (StandsOnce q) e es h

  times_same : (q : ℕ) (es : List Event) → waiting_times procurers_of q (joined_all places p es) ≡ waiting_times procurers_of q es
  times_same q [] = refl
  times_same q (e ∷ es) =
      let head : times_in q (cond (event_is_among places e.place) (with_state (joined p) e) e).state.procurers ≡ times_in q e.state.procurers =
      ap (times_in q) (join_procurers e) in
      omega (arith, times_same q es)

  once_joined : (es : List Event) → is_waiting p es ≡ false → EachOnce es → EachOnce (joined_all places p es)
  once_joined es idle h = record {
    waiting = λ q. all_once q es idle (h.waiting q);
    procuring = λ q. omega (arith, times_same q es, h.procuring q);
  }

-- ---- the lists of places

pub list_here : (lists : List (List Place)) (p : ℕ) (places : List Place) → 1 ≤ p → list_of p (with_list lists p places) ≡ places
list_here lists zero places h = absurd (omega (arith, h))
list_here [] (suc zero) places h = refl
list_here (l ∷ lists) (suc zero) places h = refl
list_here [] (suc (suc p)) places h = list_here [] (suc p) places (omega arith)
list_here (l ∷ lists) (suc (suc p)) places h = list_here lists (suc p) places (omega arith)

pub list_other : (lists : List (List Place)) (p q : ℕ) (places : List Place) → q ≢ p → list_of q (with_list lists p places) ≡ list_of q lists
list_other lists zero q places n = refl
list_other lists (suc p) zero places n = refl
list_other lists (suc zero) (suc zero) places n = absurd (n refl)
list_other [] (suc zero) (suc (suc q)) places n = refl
list_other (l ∷ lists) (suc zero) (suc (suc q)) places n = refl
list_other [] (suc (suc p)) (suc zero) places n = refl
list_other (l ∷ lists) (suc (suc p)) (suc zero) places n = refl
list_other [] (suc (suc p)) (suc (suc q)) places n = list_other [] (suc p) (suc q) places (λ e. n (ap suc e))
list_other (l ∷ lists) (suc (suc p)) (suc (suc q)) places n = list_other lists (suc p) (suc q) places (λ e. n (ap suc e))

-- ---- waiting for several

module _ (es : List Event) (lists : List (List Place)) (xs : List ProcessState) (v : AreEvents es lists xs) (p : ℕ) (able : is_able (numbered xs p) ≡ true)
    (places : List Place) (few : length places ≤ most_events) where
  inside : (1 ≤ p) × (p ≤ length xs)
  inside = within_of xs p (able_live (numbered xs p) able)

  here : numbered (set_numbered xs p WaitsAny) p ≡ Some WaitsAny
  here = numbered_set xs p WaitsAny inside.0 inside.1

  own_list : list_of p (with_list lists p places) ≡ places
  own_list = list_here lists p places inside.0

  another : (q : ℕ) → waits (numbered xs q) ≡ true → q ≢ p
  another q w e = able_waits (numbered xs p) able (subst (λ (m : ℕ). waits (numbered xs m) ≡ true) e w)

  stays : (q : ℕ) → waits (numbered xs q) ≡ true → numbered (set_numbered xs p WaitsAny) q ≡ numbered xs q
  stays q w = get_numbered_other xs p q WaitsAny (another q w)

  Awaits : ℕ → Place → Type 0
  Awaits q to = AwaitsAt (numbered (set_numbered xs p WaitsAny) q) (list_of q (with_list lists p places)) to

  own_awaits : (to : Place) → event_is_among places to ≡ true → Awaits p to
  unfolding Awaits
  own_awaits to i =
      subst (λ (o : Option ProcessState). AwaitsAt o (list_of p (with_list lists p places)) to) (sym here)
      (ap (λ (ps : List Place). event_is_among ps to) own_list ∙ i)

  waiters_await : (q : ℕ) (to : Place) → Among q (waiters_at to (joined_all places p es)) → Awaits q to
  unfolding Awaits
  waiters_await q to i = elim (joined_waiters places p q to es i) [
    | inl k ↦
        let is = v.waiters q to k in
        let w = awaits_waits (numbered xs q) (list_of q lists) to is in
        subst (λ (o : Option ProcessState). AwaitsAt o (list_of q (with_list lists p places)) to) (sym (stays q w))
        (subst (λ (ps : List Place). AwaitsAt (numbered xs q) ps to) (sym (list_other lists p q places (another q w))) is)
    | inr k ↦ subst (λ (m : ℕ). Awaits m to) (sym k.0) (own_awaits to k.1)
  ]

  listed_by : (q : ℕ) → Dec (q ≡ p) → is_listed q (with_list lists p places) ≡ true → numbered (set_numbered xs p WaitsAny) q ≡ Some WaitsAny
  listed_by q (yes e) i = ap (numbered (set_numbered xs p WaitsAny)) e ∙ here
  listed_by q (no n) i =
      get_numbered_other xs p q WaitsAny n ∙ v.listed q (ap (list_any (λ (z : Place). true)) (sym (list_other lists p q places n)) ∙ i)

  short_by : (q : ℕ) → Dec (q ≡ p) → length (list_of q (with_list lists p places)) ≤ most_events
  short_by q (yes e) =
      subst (λ (m : ℕ). length (list_of m (with_list lists p places)) ≤ most_events) (sym e)
      (subst (λ (ps : List Place). length ps ≤ most_events) (sym own_list) few)
  short_by q (no n) = subst (λ (ps : List Place). length ps ≤ most_events) (sym (list_other lists p q places n)) (v.short q)

  live_by : (q : ℕ) → Dec (q ≡ p) → is_live (numbered (set_numbered xs p WaitsAny) q) ≡ is_live (numbered xs q)
  live_by q (yes e) =
      subst (λ (m : ℕ). is_live (numbered (set_numbered xs p WaitsAny) m) ≡ is_live (numbered xs m)) (sym e)
      (ap is_live here ∙ sym (able_live (numbered xs p) able))
  live_by q (no n) = ap is_live (get_numbered_other xs p q WaitsAny n)

  pub same_live : (q : ℕ) → is_live (numbered (set_numbered xs p WaitsAny) q) ≡ is_live (numbered xs q)
  same_live q = live_by q (ℕ_discrete q p)

  pub any_kept : AreEvents (joined_all places p es) (with_list lists p places) (set_numbered xs p WaitsAny)
  unfolding Awaits
  any_kept = record {
    apart = mapped_apart (λ e. cond (event_is_among places e.place) (with_state (joined p) e) e) (join_stays places p) es v.apart;
    once = once_joined places p es (nowhere es lists xs v p able) v.once;
    waiters = waiters_await;
    procurers = λ q to i.
        let is = v.procurers q to (ap (list_any (λ y. q == y)) (sym (joined_procurers places p to es)) ∙ i) in
        stays q (ap waits is) ∙ is;
    listed = λ q i. listed_by q (ℕ_discrete q p) i;
    short = λ q. short_by q (ℕ_discrete q p);
  }

-- ---- images

pub small_number : (numbers : List ℕ) (p : ℕ) → AreSmall numbers → woken_number numbers p ≤ most_events
small_number numbers zero a = omega arith
small_number [] (suc k) a = omega arith
small_number (n ∷ numbers) (suc zero) a = All-head (λ (m : ℕ). m ≤ most_events) n numbers a
small_number (n ∷ numbers) (suc (suc k)) a = small_number numbers (suc k) (All-tail (λ (m : ℕ). m ≤ most_events) n numbers a)

module _ (code : Code) (img : Image) (v : IsValid code img) (p : ℕ) where
  pub wait_any_valid : is_able (numbered img.states p) ≡ true → (places : List Place) → length places ≤ most_events
      → IsValid code (write_made p (writes.wait_any places) img)
  wait_any_valid able places few =
      waiting_valid code img v (joined_all places p img.events) (with_list img.lists p places) (set_numbered img.states p WaitsAny) img.numbers
      (length_states img.states p WaitsAny) refl v.positions
      (same_live img.events img.lists img.states v.events p able places few) (any_kept img.events img.lists img.states v.events p able places few)

  pub go_on_valid : IsValid code (write_made p writes.go_on img)
  go_on_valid =
      waiting_valid code img v img.events img.lists img.states (set_numbered img.numbers p 0) refl (length_set img.numbers p 0)
      (number_set img.numbers p 0 (omega arith) v.positions) (λ q. refl) v.events
