-- Events that are opened and closed, and states that change, keep an image valid.
use Rattle.std.proofs.Common.{◌≡◌, refl, sym, ap, subst, ◌∙◌, ◌⊎◌, ℕ, zero, suc, ◌≤◌, ◌==◌, ◌||◌, Bool, true, false, cond, List, [], ◌∷◌, ◌++◌, length, All, Option, Some, None, arith, inl, inr}
use Rattle.std.specs.Prelude.{slice_get, is_some}
use Rattle.std.specs.List.{list_any}
use Rattle.std.proofs.Math.Decide.{ℕ_discrete}
use Rattle.std.proofs.lemmas.Bool.{cases_Bool, cond-false, or_cases, or_parts, eq-eqb}
use Rattle.std.proofs.lemmas.List.{length-set}
use Rattle.b67_list.specs.Numbered.{numbered, set_numbered}
use Rattle.b67_list.proofs.Truths.{not_both}
use Rattle.b67_word.specs.declared.Place.{Place}
use Rattle.b67_segment.specs.declared.code.Code.{Code}
use Rattle.b67_deeds.specs.Events.{EventState}
use Rattle.b67_events.specs.Events.{Event, same_place, is_from, is_open, event_at, state_of, waiters_at, procurers_at, is_waiting, fresh, event_opened, closed_from, list_of}
use Rattle.b67_events.specs.Laws.{EventsAreApart}
use Rattle.b67_events.specs.Once.{EachOnce, waiters_of, procurers_of}
use Rattle.b67_events.proofs.Listed.{same_place_true, same_place_self}
use Rattle.b67_events.proofs.EventLaws.{one_event, stay_apart}
use Rattle.b67_events.proofs.OnceLaws.{waits_once}
use Rattle.b67_table.specs.declared.ProcessState.{ProcessState}
use Rattle.b67_table.specs.declared.ProcessState.TheVariants.{Able, WaitsFor, WaitsAny, Procures, Ended}
use Rattle.b67_table.specs.Image.{Image, with_events, is_able, is_live}
use Rattle.b67_table.specs.Limits.{most_events}
use Rattle.b67_table.specs.Writes.{able_again}
use Rattle.b67_table.specs.Valid.{IsValid, AwaitsAt, AreEvents, waits}
use Rattle.b67_table.proofs.Stacks.{get_numbered_other}
use Rattle.b67_table.proofs.Lists.{numbered_set}
use Rattle.b67_table.proofs.OwnValid.{process_stays}

-- a process stands in a list
abbrev pub Among : ℕ → List ℕ → Type 0
Among q xs = list_any (λ p. q == p) xs ≡ true

pub or_left : (a b : Bool) → a ≡ true → a || b ≡ true
or_left true b e = refl
or_left false b e = cc

pub or_right : (a b : Bool) → b ≡ true → a || b ≡ true
or_right true b e = refl
or_right false b e = e

pub in_either : (q : ℕ) (xs ys : List ℕ) → Among q (xs ++ ys) → Among q xs ⊎ Among q ys
in_either q [] ys e = inr e
in_either q (x ∷ xs) ys e = elim (or_cases (q == x) (list_any (λ p. q == p) (xs ++ ys)) e) [
  | inl j ↦ inl (or_left (q == x) (list_any (λ p. q == p) xs) j)
  | inr j ↦ elim (in_either q xs ys j) [
    | inl k ↦ inl (or_right (q == x) (list_any (λ p. q == p) xs) k)
    | inr k ↦ inr k
  ]
]

-- who waits stands in a list of the event at some place
stands_at : (q : ℕ) (es : List Event) → EventsAreApart es → is_waiting q es ≡ true → (at : Place) × (Among q (waiters_at at es) ⊎ Among q (procurers_at at es))
stands_at q [] apart e = cc
stands_at q (x ∷ xs) apart e = elim (or_cases (list_any (λ p. q == p) (x.state.waiters ++ x.state.procurers)) (is_waiting q xs) e) [
  | inl i ↦
      let here : event_at x.place (x ∷ xs) ≡ Some x = ap (λ b. cond b (Some x) (event_at x.place xs)) (same_place_self x.place x.place refl) in (
        x.place,
        elim (in_either q x.state.waiters x.state.procurers i) [
          | inl j ↦ inl (ap (λ o. list_any (λ p. q == p) (state_of o).waiters) here ∙ j)
          | inr j ↦ inr (ap (λ o. list_any (λ p. q == p) (state_of o).procurers) here ∙ j)
        ],
      )
  | inr i ↦
      let there = stands_at q xs apart.1 i in (
        there.0,
        elim there.1 [
          | inl j ↦ inl (ap (λ o. list_any (λ p. q == p) (state_of o).waiters) (later there.0 (by_lists waiters_of refl there.0 j)) ∙ j)
          | inr j ↦ inr (ap (λ o. list_any (λ p. q == p) (state_of o).procurers) (later there.0 (by_lists procurers_of refl there.0 j)) ∙ j)
        ],
      )
]
  where
    open_by : (lists : EventState → List ℕ) → lists (state_of None) ≡ [] → (o : Option Event) (b : Bool) → b ≡ is_some o → Among q (lists (state_of o)) → b ≡ true
    open_by lists n None b h j = let clash : false ≡ true = ap (list_any (λ p. q == p)) (sym n) ∙ j in cc
    open_by lists n (Some y) b h j = h

    by_lists : (lists : EventState → List ℕ) → lists (state_of None) ≡ [] → (at : Place) → Among q (lists (state_of (event_at at xs))) → is_open at xs ≡ true
    by_lists lists n at j = open_by lists n (event_at at xs) (is_open at xs) (one_event.found at xs) j

    later : (at : Place) → is_open at xs ≡ true → event_at at (x ∷ xs) ≡ event_at at xs
    later at h = elim (cases_Bool (same_place x.place at)) [
      | inl k ↦ let no : is_open x.place xs ≡ true = ap (λ a. is_open a xs) (same_place_true x.place at k) ∙ h in let clash : false ≡ true = sym apart.0 ∙ no in cc
      | inr k ↦ cond-false (same_place x.place at) (Some x) (event_at at xs) k
    ]

-- ---- states

pub length_states : (xs : List ProcessState) (p : ℕ) (s : ProcessState) → length (set_numbered xs p s) ≡ length xs
length_states xs zero s = refl
length_states xs (suc k) s = length-set xs k s

pub length_again : (ps : List ℕ) (xs : List ProcessState) → length (able_again ps xs) ≡ length xs
length_again [] xs = refl
length_again (p ∷ ps) xs = length_again ps (set_numbered xs p Able) ∙ length_states xs p Able

-- who is not made able is as before
pub same_state : (ps : List ℕ) (xs : List ProcessState) (q : ℕ) → list_any (λ p. q == p) ps ≡ false → numbered (able_again ps xs) q ≡ numbered xs q
same_state [] xs q h = refl
same_state (p ∷ ps) xs q h =
    let parts = or_parts (q == p) (list_any (λ x. q == x) ps) h in
    same_state ps (set_numbered xs p Able) q parts.1 ∙ get_numbered_other xs p q Able (λ e. not_both (q == p) (eq-eqb q p e) parts.0)

pub live_of : (o : Option ProcessState) → waits o ≡ true → is_live o ≡ true
live_of (Some (WaitsFor x)) e = refl
live_of (Some WaitsAny) e = refl
live_of (Some (Procures x)) e = refl
live_of (Some Able) e = cc
live_of (Some Ended) e = cc
live_of None e = cc

pub within_of : (xs : List ProcessState) (q : ℕ) → is_live (numbered xs q) ≡ true → (1 ≤ q) × (q ≤ length xs)
within_of xs zero e = cc
within_of xs (suc k) e = (omega arith, by_get xs k e)
  where
    by_get : (ys : List ProcessState) (n : ℕ) → is_live (slice_get ys n) ≡ true → suc n ≤ length ys
    by_get [] n i = cc
    by_get (y ∷ ys) zero i = omega arith
    by_get (y ∷ ys) (suc n) i = omega (arith, by_get ys n i)

pub set_live : (xs : List ProcessState) (p q : ℕ) → is_live (numbered xs p) ≡ true → Dec (q ≡ p) → is_live (numbered (set_numbered xs p Able) q) ≡ is_live (numbered xs q)
set_live xs p q l (yes e) =
    let w = within_of xs p l in
    subst (λ (m : ℕ). is_live (numbered (set_numbered xs p Able) m) ≡ is_live (numbered xs m)) (sym e)
    (ap is_live (numbered_set xs p Able w.0 w.1) ∙ sym l)
set_live xs p q l (no h) = ap is_live (get_numbered_other xs p q Able h)

-- those who are made able lived
pub again_live : (ps : List ℕ) (xs : List ProcessState) (q : ℕ) → ((p : ℕ) → list_any (λ x. p == x) ps ≡ true → is_live (numbered xs p) ≡ true)
    → is_live (numbered (able_again ps xs) q) ≡ is_live (numbered xs q)
again_live [] xs q k = refl
again_live (p ∷ ps) xs q k =
    let here : is_live (numbered xs p) ≡ true = k p (or_left (p == p) (list_any (λ x. p == x) ps) (eq-eqb p p refl)) in
    again_live ps (set_numbered xs p Able) q
    (λ x e. set_live xs p x here (ℕ_discrete x p) ∙ k x (or_right (x == p) (list_any (λ y. x == y) ps) e))
    ∙ set_live xs p q here (ℕ_discrete q p)

-- ---- events

-- who is able does not wait
pub able_waits : (o : Option ProcessState) {A : Type 0} → is_able o ≡ true → waits o ≡ true → A
able_waits (Some Able) a w = cc
able_waits (Some (WaitsFor x)) a w = cc
able_waits (Some WaitsAny) a w = cc
able_waits (Some (Procures x)) a w = cc
able_waits (Some Ended) a w = cc
able_waits None a w = cc

-- who waits for an event to happen waits
pub awaits_waits : (o : Option ProcessState) (places : List Place) (at : Place) → AwaitsAt o places at → waits o ≡ true
awaits_waits (Some (WaitsFor x)) places at a = refl
awaits_waits (Some WaitsAny) places at a = refl
awaits_waits (Some (Procures x)) places at a = absurd a
awaits_waits (Some Able) places at a = absurd a
awaits_waits (Some Ended) places at a = absurd a
awaits_waits None places at a = absurd a

module _ (es : List Event) (lists : List (List Place)) (xs : List ProcessState) (v : AreEvents es lists xs) where
  -- who stands in a list waits
  pub who_waits : (q : ℕ) → is_waiting q es ≡ true → waits (numbered xs q) ≡ true
  who_waits q e =
      let there = stands_at q es v.apart e in
      elim there.1 [ inl i ↦ awaits_waits (numbered xs q) (list_of q lists) there.0 (v.waiters q there.0 i) | inr i ↦ ap waits (v.procurers q there.0 i) ]

  -- who is able stands in none
  pub nowhere : (q : ℕ) → is_able (numbered xs q) ≡ true → is_waiting q es ≡ false
  nowhere q able = by_test (is_waiting q es) refl
    where
      by_test : (b : Bool) → is_waiting q es ≡ b → is_waiting q es ≡ false
      by_test true e = able_waits (numbered xs q) able (who_waits q e)
      by_test false e = e

  -- those who wait are as before
  pub states_kept : (ys : List ProcessState) → ((q : ℕ) → waits (numbered xs q) ≡ true → numbered ys q ≡ numbered xs q) → AreEvents es lists ys
  states_kept ys k = record {
    apart = v.apart;
    once = v.once;
    waiters = λ q at i.
        let is = v.waiters q at i in
        subst (λ (o : Option ProcessState). AwaitsAt o (list_of q lists) at) (sym (k q (awaits_waits (numbered xs q) (list_of q lists) at is))) is;
    procurers = λ q at i. let is = v.procurers q at i in k q (ap waits is) ∙ is;
    listed = λ q i. let is = v.listed q i in k q (ap waits is) ∙ is;
    short = v.short;
  }

  -- at each place there is the event of before, or one for which nobody waits
  events_kept : (fs : List Event) → EventsAreApart fs → EachOnce fs
      → ((at : Place) → (event_at at fs ≡ event_at at es) ⊎ ((waiters_at at fs ≡ []) × (procurers_at at fs ≡ []))) → AreEvents fs lists xs
  events_kept fs apart once k = record {
    apart = apart;
    once = once;
    waiters = λ q at i. elim (k at) [
      | inl same ↦ v.waiters q at (ap (λ o. list_any (λ p. q == p) (state_of o).waiters) (sym same) ∙ i)
      | inr none ↦ nobody q (waiters_at at fs) none.0 i
    ];
    procurers = λ q at i. elim (k at) [
      | inl same ↦ v.procurers q at (ap (λ o. list_any (λ p. q == p) (state_of o).procurers) (sym same) ∙ i)
      | inr none ↦ nobody q (procurers_at at fs) none.1 i
    ];
    listed = v.listed;
    short = v.short;
  }
    where
      nobody : {A : Type 0} (q : ℕ) (ps : List ℕ) → ps ≡ [] → Among q ps → A
      nobody q [] n i = cc
      nobody q (p ∷ ps) n i = cc

  closed_kept : (stack at : ℕ) → AreEvents (closed_from stack at es) lists xs
  closed_kept stack at =
      events_kept (closed_from stack at es) (stay_apart.by_closing stack at es v.apart) (waits_once.by_closing stack at es v.once)
      (λ to. by_test to (is_from stack at to) (one_event.closed_there stack at to es))
    where
      by_test : (to : Place) (b : Bool) → event_at to (closed_from stack at es) ≡ cond b None (event_at to es)
          → (event_at to (closed_from stack at es) ≡ event_at to es) ⊎ ((waiters_at to (closed_from stack at es) ≡ []) × (procurers_at to (closed_from stack at es) ≡ []))
      by_test to true e = inr (ap (λ o. (state_of o).waiters) e, ap (λ o. (state_of o).procurers) e)
      by_test to false e = inl e

  opened_kept : (at : Place) → AreEvents (event_opened at es) lists xs
  opened_kept at =
      events_kept (event_opened at es) (stay_apart.by_opening at es v.apart) (waits_once.by_opening at es v.once)
      (λ to. by_test to (same_place to at) refl)
    where
      by_test : (to : Place) (b : Bool) → same_place to at ≡ b
          → (event_at to (event_opened at es) ≡ event_at to es) ⊎ ((waiters_at to (event_opened at es) ≡ []) × (procurers_at to (event_opened at es) ≡ []))
      by_test to true e =
          let here : event_at to (event_opened at es) ≡ Some (fresh at) = ap (λ a. event_at a (event_opened at es)) (same_place_true to at e) ∙ one_event.opened_here at es in
          inr (ap (λ o. (state_of o).waiters) here, ap (λ o. (state_of o).procurers) here)
      by_test to false e = inl (one_event.opened_elsewhere at to (λ k. not_both (same_place to at) (same_place_self to at k) e) es)

-- ---- images

module _ (code : Code) (img : Image) (v : IsValid code img) where
  -- an image with other events, lists, states and woken numbers, in which the same processes live
  pub waiting_valid : (es : List Event) (lists : List (List Place)) (xs : List ProcessState) (ns : List ℕ) → length xs ≡ length img.states
      → length ns ≡ length img.numbers → All (λ (n : ℕ). n ≤ most_events) ns → ((q : ℕ) → is_live (numbered xs q) ≡ is_live (numbered img.states q))
      → AreEvents es lists xs → IsValid code (record img { events = es; lists = lists; states = xs; numbers = ns })
  waiting_valid es lists xs ns n m small l a = record {
    segments = v.segments;
    words = v.words;
    registers = v.registers;
    states = n ∙ v.states;
    numbers = m ∙ v.numbers;
    positions = small;
    some = v.some;
    most = v.most;
    system = v.system;
    stacks = λ q one. v.stacks q one ∙ sym (l q);
    processes = λ q r i e.
        process_stays img (record img { events = es; lists = lists; states = xs; numbers = ns }) q r refl (v.processes q r (sym (l q) ∙ i) e);
    earlier = v.earlier;
    rows = record { few = v.rows.few; room = v.rows.room; short = v.rows.short; words = v.rows.words; shallow = v.rows.shallow };
    events = a;
  }

  events_valid : (es : List Event) → AreEvents es img.lists img.states → IsValid code (with_events img es)
  events_valid es a = waiting_valid es img.lists img.states img.numbers refl refl v.positions (λ q. refl) a

  pub close_events_valid : (stack at : ℕ) → IsValid code (with_events img (closed_from stack at img.events))
  close_events_valid stack at = events_valid (closed_from stack at img.events) (closed_kept img.events img.lists img.states v.events stack at)

  pub open_event_valid : (at : Place) → IsValid code (with_events img (event_opened at img.events))
  open_event_valid at = events_valid (event_opened at img.events) (opened_kept img.events img.lists img.states v.events at)
