-- Who is able, by the states before and after.
use Rattle.std.specs.Prelude.{nat_lt, slice_get, if◌then◌else◌}
use Rattle.std.specs.List.{list_any}
use Rattle.std.proofs.Common.{◌≡◌, ◌≢◌, refl, ap, subst, ◌∙◌, ℕ, zero, suc, ◌+◌, ◌≤◌, ◌==◌, ◌||◌, Bool, true, false, cond, List, [], ◌∷◌, ◌++◌, length, take, All, Option, Some, None, inl, inr, arith}
use Rattle.std.proofs.lemmas.List.Elements.{All-head, All-tail}
use Rattle.std.proofs.Math.Decide.{ℕ_discrete}
use Rattle.std.proofs.lemmas.Bool.{or_cases, or_parts, eqb-true, eq-eqb, le-leb, leb-true}
use Rattle.b67_list.specs.Numbered.{numbered, set_numbered}
use Rattle.b67_list.proofs.Truths.{not_both}
use Rattle.b67_word.specs.declared.Place.{Place}
use Rattle.b67_segment.specs.declared.code.Code.{Code}
use Rattle.b67_deeds.specs.declared.EventAct.TheVariants as act
use Rattle.b67_deeds.specs.declared.EventTest.TheVariants as test
use Rattle.b67_deeds.specs.Deeds.{EventDeed, acts, tests, Next, goes, waits as awaits, procures}
use Rattle.b67_events.specs.Events.{Event, same_place, event_at, state_of, waiters_at, procurers_at, deed_at, list_of}
use Rattle.b67_events.specs.Once.{times_in}
use Rattle.b67_table.specs.declared.ProcessState.{ProcessState}
use Rattle.b67_table.specs.declared.ProcessState.TheVariants.{Able, WaitsFor, WaitsAny, Procures, Ended}
use Rattle.b67_table.specs.Image.{Image, is_able}
use Rattle.b67_table.specs.Writes.{able_again, waiting}
use Rattle.b67_table.specs.Valid.{IsValid, AreEvents, waits}
use Rattle.b67_table.proofs.Stacks.{get_numbered_other}
use Rattle.b67_table.proofs.Lists.{numbered_set}
use Rattle.b67_table.proofs.States.{able_all}
use Rattle.b67_table.proofs.EventKept.{or_left, length_states, same_state, live_of, within_of, awaits_waits}
use Rattle.b67_table.proofs.Waking.{able_live}
use Rattle.b67_action.specs.Able.{number_times, one_if, able_in, newly, AbleAfter}

-- ---- how often a process stands in a list

in_none : (q : ℕ) (xs : List ℕ) → list_any (λ x. q == x) xs ≡ false → times_in q xs ≡ 0
in_none q [] h = refl
in_none q (x ∷ xs) h =
    let parts = or_parts (q == x) (list_any (λ y. q == y) xs) h in
    let rest = in_none q xs parts.1 in
    let head : one_if (q == x) ≡ 0 = ap one_if parts.0 in omega arith

in_some : (q : ℕ) (xs : List ℕ) → list_any (λ x. q == x) xs ≡ true → 1 ≤ times_in q xs
in_some q [] h = cc
in_some q (x ∷ xs) h = elim (or_cases (q == x) (list_any (λ y. q == y) xs) h) [
  | inl e ↦ let head : one_if (q == x) ≡ 1 = ap one_if e in omega arith
  | inr e ↦ let rest = in_some q xs e in omega arith
]

-- each stands once in the list of those who wait for an event to happen
pub waiters_once : (q : ℕ) (at : Place) (es : List Event) → All (λ e. times_in q e.state.waiters ≤ 1) es → times_in q (waiters_at at es) ≤ 1
waiters_once q at [] h = omega arith
waiters_once q at (x ∷ xs) h =
    by (same_place x.place at) (All-head (λ (e : Event). times_in q e.state.waiters ≤ 1) x xs h)
    (waiters_once q at xs (All-tail (λ (e : Event). times_in q e.state.waiters ≤ 1) x xs h))
  where
    by : (b : Bool) → times_in q x.state.waiters ≤ 1 → times_in q (waiters_at at xs) ≤ 1 → times_in q (state_of (cond b (Some x) (event_at at xs))).waiters ≤ 1
    by true one more = one
    by false one more = more

first_once : (q : ℕ) (ps : List ℕ) → times_in q (take 1 ps) ≤ 1
first_once q [] = omega arith
first_once q (p ∷ ps) = by (q == p)
  where
    by : (b : Bool) → one_if b + 0 ≤ 1
    by true = omega arith
    by false = omega arith

first_among : (q : ℕ) (ps : List ℕ) → list_any (λ x. q == x) (take 1 ps) ≡ true → list_any (λ x. q == x) ps ≡ true
first_among q [] e = e
first_among q (p ∷ ps) e = elim (or_cases (q == p) false e) [ inl j ↦ or_left (q == p) (list_any (λ x. q == x) ps) j | inr j ↦ absurd (not_both false j refl) ]

-- those who are released by a deed wait, and each is released once
module _ (es : List Event) (lists : List (List Place)) (xs : List ProcessState) (v : AreEvents es lists xs) (p q : ℕ) (at : Place) where
  waiter_waits : list_any (λ y. q == y) (waiters_at at es) ≡ true → waits (numbered xs q) ≡ true
  waiter_waits i = awaits_waits (numbered xs q) (list_of q lists) at (v.waiters q at i)

  pub freed_wait : (x : EventDeed) → list_any (λ y. q == y) (deed_at x p at es).frees ≡ true → waits (numbered xs q) ≡ true
  freed_wait (acts act.Cause) i = waiter_waits i
  freed_wait (acts act.CauseAndReset) i = waiter_waits i
  freed_wait (acts act.Reset) i = cc
  freed_wait (acts act.Wait) i = cc
  freed_wait (acts act.Procure) i = cc
  freed_wait (acts act.Liberate) i = ap waits (v.procurers q at (first_among q (procurers_at at es) i))
  freed_wait (tests test.Happened) i = cc
  freed_wait (tests test.Available) i = cc
  freed_wait (tests test.Fix) i = cc
  freed_wait (tests test.WaitAny) i = cc

  pub freed_once : (x : EventDeed) → times_in q (deed_at x p at es).frees ≤ 1
  freed_once (acts act.Cause) = waiters_once q at es (v.once.waiting q)
  freed_once (acts act.CauseAndReset) = waiters_once q at es (v.once.waiting q)
  freed_once (acts act.Reset) = omega arith
  freed_once (acts act.Wait) = omega arith
  freed_once (acts act.Procure) = omega arith
  freed_once (acts act.Liberate) = first_once q (procurers_at at es)
  freed_once (tests test.Happened) = omega arith
  freed_once (tests test.Available) = omega arith
  freed_once (tests test.Fix) = omega arith
  freed_once (tests test.WaitAny) = omega arith

-- ---- states

waits_not_able : (o : Option ProcessState) → waits o ≡ true → is_able o ≡ false
waits_not_able (Some (WaitsFor x)) e = refl
waits_not_able (Some WaitsAny) e = refl
waits_not_able (Some (Procures x)) e = refl
waits_not_able (Some Able) e = cc
waits_not_able (Some Ended) e = cc
waits_not_able None e = cc

-- nobody waits and is able
pub able_waits : (o : Option ProcessState) → is_able o ≡ true → waits o ≡ true → ⊥
able_waits o able w = not_both (is_able o) able (waits_not_able o w)

made_able : (q : ℕ) (ws : List ℕ) (xs : List ProcessState) → 1 ≤ q → q ≤ length xs → list_any (λ x. q == x) ws ≡ true → is_able (numbered (able_again ws xs) q) ≡ true
made_able q [] xs one within e = cc
made_able q (x ∷ ws) xs one within e = elim (or_cases (q == x) (list_any (λ y. q == y) ws) e) [
  | inl j ↦ able_all is_able refl ws (set_numbered xs x Able) q (here (eqb-true q x j))
  | inr j ↦ made_able q ws (set_numbered xs x Able) one (omega (arith, length_states xs x Able, within)) j
]
  where
    here : q ≡ x → is_able (numbered (set_numbered xs x Able) q) ≡ true
    here h = subst (λ (m : ℕ). is_able (numbered (set_numbered xs m Able) q) ≡ true) h (ap is_able (numbered_set xs q Able one within))

-- some who wait are made able, each once
module _ (xs : List ProcessState) (ws : List ℕ) (waited : (q : ℕ) → list_any (λ x. q == x) ws ≡ true → waits (numbered xs q) ≡ true) (few : (q : ℕ) → times_in q ws ≤ 1) where
  pub woken_others : (q : ℕ) → one_if (is_able (numbered (able_again ws xs) q)) ≡ one_if (is_able (numbered xs q)) + times_in q ws
  woken_others q = by_any (list_any (λ x. q == x) ws) refl
    where
      by_any : (b : Bool) → list_any (λ x. q == x) ws ≡ b → one_if (is_able (numbered (able_again ws xs) q)) ≡ one_if (is_able (numbered xs q)) + times_in q ws
      by_any false h =
          let same : one_if (is_able (numbered (able_again ws xs) q)) ≡ one_if (is_able (numbered xs q)) =
          ap (λ (o : Option ProcessState). one_if (is_able o)) (same_state ws xs q h) in
          omega (arith, same, in_none q ws h)
      by_any true h =
          let w = waited q h in
          let within = within_of xs q (live_of (numbered xs q) w) in
          let now : one_if (is_able (numbered (able_again ws xs) q)) ≡ 1 = ap one_if (made_able q ws xs within.0 within.1 h) in
          let before : one_if (is_able (numbered xs q)) ≡ 0 = ap one_if (waits_not_able (numbered xs q) w) in
          omega (arith, now, before, in_some q ws h, few q)

  pub woken_own : (p : ℕ) → is_able (numbered xs p) ≡ true → times_in p ws ≡ 0
  woken_own p able = by (list_any (λ x. p == x) ws) refl
    where
      by : (b : Bool) → list_any (λ x. p == x) ws ≡ b → times_in p ws ≡ 0
      by false h = in_none p ws h
      by true h = absurd (not_both (is_able (numbered xs p)) able (waits_not_able (numbered xs p) (waited p h)))

pub other_waits : (next : Next) (at : Place) (xs : List ProcessState) (p q : ℕ) → q ≢ p → numbered (waiting next at p xs) q ≡ numbered xs q
other_waits goes at xs p q h = refl
other_waits awaits at xs p q h = get_numbered_other xs p q (WaitsFor at) h
other_waits procures at xs p q h = get_numbered_other xs p q (Procures at) h

-- ---- one state more

last_is : (xs : List ProcessState) (a : ProcessState) → slice_get (xs ++ a ∷ []) (length xs) ≡ Some a
last_is [] a = refl
last_is (x ∷ xs) a = last_is xs a

others_are : (xs : List ProcessState) (a : ProcessState) (k : ℕ) → k ≢ length xs → slice_get (xs ++ a ∷ []) k ≡ slice_get xs k
others_are [] a zero h = absurd (h refl)
others_are [] a (suc k) h = refl
others_are (x ∷ xs) a zero h = refl
others_are (x ∷ xs) a (suc k) h = others_are xs a k (λ e. h (ap suc e))

old_is : (xs : List ProcessState) (a : ProcessState) (q : ℕ) → q ≢ suc (length xs) → numbered (xs ++ a ∷ []) q ≡ numbered xs q
old_is xs a zero h = refl
old_is xs a (suc k) h = others_are xs a k (λ e. h (ap suc e))

none_after : (xs : List ProcessState) → slice_get xs (length xs) ≡ None
none_after [] = refl
none_after (x ∷ xs) = none_after xs

-- ---- images

newly_by : (n m : ℕ) (b : Bool) → nat_lt n m ≡ b → m ≡ n → newly n m ≡ []
newly_by n m true e s = absurd (omega (arith, leb-true (suc n) m e, s))
newly_by n m false e s = ap (λ (c : Bool). if c then m ∷ [] else []) e

newly_one : (n : ℕ) → newly n (n + 1) ≡ (n + 1) ∷ []
newly_one n = ap (λ (c : Bool). if c then (n + 1) ∷ [] else []) (le-leb (suc n) (n + 1) (omega arith))

none_more : (n : ℕ) → n ≡ n + 0
none_more n = omega arith

-- no process is started
pub able_by : (before after : Image) (p : ℕ) (released : List ℕ) (xs : List ProcessState) → after.states ≡ xs → after.started ≡ before.started
    → ((q : ℕ) → q ≢ p → one_if (is_able (numbered xs q)) ≡ one_if (able_in before q) + number_times q released) → number_times p released ≡ 0 → AbleAfter before after p released
able_by before after p released xs s n k own =
    let none : newly before.started after.started ≡ [] = newly_by before.started after.started (nat_lt before.started after.started) refl n in
    record {
      others = λ q h.
          let a : one_if (able_in after q) ≡ one_if (is_able (numbered xs q)) = ap (λ (ss : List ProcessState). one_if (is_able (numbered ss q))) s in
          let b : number_times q (newly before.started after.started) ≡ 0 = ap (number_times q) none in
          omega (arith, a, b, k q h);
      own = own;
      own_new = ap (number_times p) none;
      grows = omega (arith, n);
    }

-- nor is any state another one
pub able_same : (before after : Image) (p : ℕ) → after.states ≡ before.states → after.started ≡ before.started → AbleAfter before after p []
able_same before after p s n = able_by before after p [] before.states s n (λ q h. none_more (one_if (able_in before q))) refl

-- one process is started
pub able_more : (code : Code) (before after : Image) (p : ℕ) → IsValid code before → is_able (numbered before.states p) ≡ true → after.states ≡ before.states ++ Able ∷ []
    → after.started ≡ before.started + 1 → AbleAfter before after p []
able_more code before after p v able s n =
    let new : newly before.started after.started ≡ (before.started + 1) ∷ [] = ap (newly before.started) n ∙ newly_one before.started in
    record {
      others = λ q h. by q (ℕ_discrete q (before.started + 1)) new;
      own = refl;
      own_new = ap (number_times p) new ∙ apart p (inside p able);
      grows = omega (arith, n);
    }
  where
    inside : (q : ℕ) → is_able (numbered before.states q) ≡ true → q ≢ before.started + 1
    inside q a e = absurd (omega (arith, (within_of before.states q (able_live (numbered before.states q) a)).1, v.states, e))

    apart : (q : ℕ) → q ≢ before.started + 1 → number_times q ((before.started + 1) ∷ []) ≡ 0
    apart q h = in_none q ((before.started + 1) ∷ []) (none (q == before.started + 1) refl)
      where
        none : (b : Bool) → (q == before.started + 1) ≡ b → list_any (λ x. q == x) ((before.started + 1) ∷ []) ≡ false
        none true e = absurd (h (eqb-true q (before.started + 1) e))
        none false e = ap (λ (c : Bool). c || false) e

    by : (q : ℕ) → Dec (q ≡ before.started + 1) → newly before.started after.started ≡ (before.started + 1) ∷ []
        → one_if (able_in after q) ≡ one_if (able_in before q) + number_times q [] + number_times q (newly before.started after.started)
    by q (yes e) new =
        let last : q ≡ suc (length before.states) = omega (arith, e, v.states) in
        let now : one_if (able_in after q) ≡ 1 =
        ap (λ (ss : List ProcessState). one_if (is_able (numbered ss q))) s
        ∙ ap (λ (m : ℕ). one_if (is_able (numbered (before.states ++ Able ∷ []) m))) last
        ∙ ap (λ (o : Option ProcessState). one_if (is_able o)) (last_is before.states Able) in
        let was : one_if (able_in before q) ≡ 0 =
        ap (λ (m : ℕ). one_if (is_able (numbered before.states m))) last ∙ ap (λ (o : Option ProcessState). one_if (is_able o)) (none_after before.states) in
        let once : one_if (q == before.started + 1) ≡ 1 = ap one_if (eq-eqb q (before.started + 1) e) in
        let there : number_times q (newly before.started after.started) ≡ one_if (q == before.started + 1) + 0 = ap (number_times q) new in
        omega (arith, now, was, once, there)
    by q (no h) new =
        let now : one_if (able_in after q) ≡ one_if (able_in before q) =
        ap (λ (ss : List ProcessState). one_if (is_able (numbered ss q))) s
        ∙ ap (λ (o : Option ProcessState). one_if (is_able o)) (old_is before.states Able q (λ e. h (omega (arith, e, v.states)))) in
        let there : number_times q (newly before.started after.started) ≡ 0 = ap (number_times q) new ∙ apart q h in
        omega (arith, now, there)
