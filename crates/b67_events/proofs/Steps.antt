-- What each call leaves, over plain lists.
use Rattle.std.proofs.Common.{◌≡◌, ℕ, ◌+◌, ◌*◌, ◌<◌, ◌≤◌, Bool, true, false, not, cond, eqb, List, [], ◌∷◌, ◌++◌, take, length, refl, sym, ap, ◌∙◌, subst, inl, inr, arith}
use Rattle.std.specs.Prelude.{filter, slice_get, All, Option, Some, None}
use Rattle.std.proofs.lemmas.Bool.{cases_Bool, cond-true, cond-false, eqb-true, or_cases, or_right}
use Rattle.std.proofs.lemmas.List.{length-map, map-append}
use Rattle.std.proofs.lemmas.List.Elements.{All-weaker}
use Rattle.b67_limits.specs.declared.TheConstants.{MOST_EVENTS}
use Rattle.b67_word.specs.declared.Place.{Place}
use Rattle.b67_deeds.specs.declared.EventAct.TheVariants as act
use Rattle.b67_deeds.specs.Events.{EventState, joined, taken, queued, served, freed, passed_on}
use Rattle.b67_deeds.specs.declared.EventTest.TheVariants as test
use Rattle.b67_deeds.specs.Deeds.{acts, tests, Next, goes}
use Rattle.b67_events.specs.Events.{Event, Events, same_place, event_at, is_open, state_of, happened_at, available_at, waiters_at, procurers_at, is_waiting, event_changed, with_state, changed_by, done_at, took, withdrawn}
use Rattle.b67_events.specs.Kept.{stands_in, waiters_listed, EventEntry, events_of, has_flags, set_flags, event_put, with_happened, with_available, without_first, without_waiters, among, waiter_numbers_of, joiners, is_named, AreNamed, IsKept}
use Rattle.b67_events.specs.Once.{times_in}
use Rattle.b67_events.specs.declared.Took.TheVariants.{Went, Waits}
use Rattle.b67_events.specs.declared.Flags.{Flags}
use Rattle.b67_events.specs.declared.Queue.TheVariants.{Waiters, Procurers}
use Rattle.b67_events.specs.declared.Waiting.{Waiting}
use Rattle.b67_events.proofs.Listed.{same_place_true}
use Rattle.b67_events.proofs.Shown.{events_joined, events_queued, events_served, events_freed, events_flags, open-shown, list_of, list_shown}
use Rattle.b67_events.proofs.Queued.{queued_filter, queued_first, queued_flags, queued_push, open-set, open-filter, open-less, open-put, apart_none, among_none, queued_known, room_one, idle_is_not_among}
use Rattle.b67_events.proofs.Numbers.{one_if, AreFrom, times_join, times_room, times_filter, times_first}
use Rattle.b67_events.proofs.Leaving.{events_released}
use Rattle.b67_events.proofs.Joined.{queued_any, joiners_few}
use Rattle.b67_events.proofs.Named.{released_is}

abbrev pub held : List Event → List (List Place) → ℕ → Events
held es ls n = record { events = es; lists = ls; room = n }

-- what changes by a test that passes, and by one that fails
changed_true : (b : Bool) (x y : Option (EventState → EventState)) (at : Place) (es : List Event) → b ≡ true
    → changed_by x at es ≡ changed_by (cond b x y) at es
changed_true b x y at es h = ap (λ c. changed_by c at es) (sym (cond-true b x y h))

changed_false : (b : Bool) (x y : Option (EventState → EventState)) (at : Place) (es : List Event) → b ≡ false
    → changed_by y at es ≡ changed_by (cond b x y) at es
changed_false b x y at es h = ap (λ c. changed_by c at es) (sym (cond-false b x y h))

pub wait_goes : (at : Place) (p : ℕ) (es : List Event) → happened_at at es ≡ true → es ≡ done_at (acts act.Wait) p at es
wait_goes at p es h = changed_true (happened_at at es) None (Some (joined p)) at es h

pub wait_waits : (at : Place) (p : ℕ) (fs : List EventEntry) (ws : List Waiting) → happened_at at (events_of fs ws) ≡ false
    → events_of fs (ws ++ record { process = p; place = at; queue = Waiters } ∷ []) ≡ done_at (acts act.Wait) p at (events_of fs ws)
wait_waits at p fs ws h =
    let es = events_of fs ws in events_joined at p fs ws ∙ changed_false (happened_at at es) None (Some (joined p)) at es h

one_true : (b : Bool) (x y : EventState → EventState) (at : Place) (es : List Event) → b ≡ true
    → event_changed at (with_state x) es ≡ event_changed at (with_state (cond b x y)) es
one_true b x y at es h = ap (λ c. event_changed at (with_state c) es) (sym (cond-true b x y h))

one_false : (b : Bool) (x y : EventState → EventState) (at : Place) (es : List Event) → b ≡ false
    → event_changed at (with_state y) es ≡ event_changed at (with_state (cond b x y)) es
one_false b x y at es h = ap (λ c. event_changed at (with_state c) es) (sym (cond-false b x y h))

pub procure_goes : (at : Place) (p : ℕ) (fs : List EventEntry) (ws : List Waiting) → available_at at (events_of fs ws) ≡ true
    → events_of (set_flags at (with_available false) fs) ws ≡ done_at (acts act.Procure) p at (events_of fs ws)
procure_goes at p fs ws h =
    let es = events_of fs ws in
    events_flags at (with_available false) (with_state taken) ws (λ x. refl) fs ∙ one_true (available_at at es) taken (queued p) at es h

pub procure_waits : (at : Place) (p : ℕ) (fs : List EventEntry) (ws : List Waiting) → available_at at (events_of fs ws) ≡ false
    → events_of fs (ws ++ record { process = p; place = at; queue = Procurers } ∷ []) ≡ done_at (acts act.Procure) p at (events_of fs ws)
procure_waits at p fs ws h =
    let es = events_of fs ws in events_queued at p fs ws ∙ one_false (available_at at es) taken (queued p) at es h

pub fix_takes : (at : Place) (fs : List EventEntry) (ws : List Waiting) → available_at at (events_of fs ws) ≡ true
    → events_of (set_flags at (with_available false) fs) ws ≡ done_at (tests test.Fix) 0 at (events_of fs ws)
fix_takes at fs ws h =
    let es = events_of fs ws in
    events_flags at (with_available false) (with_state taken) ws (λ x. refl) fs ∙ changed_true (available_at at es) (Some taken) None at es h

pub fix_leaves : (at : Place) (es : List Event) → available_at at es ≡ false → es ≡ done_at (tests test.Fix) 0 at es
fix_leaves at es h = changed_false (available_at at es) (Some taken) None at es h

-- there is room for one more who waits, for as many events as one can
pub kept_room : (fs : List EventEntry) (ws : List Waiting) (n capacity p : ℕ) → IsKept fs ws n capacity → 1 ≤ p → p ≤ n
    → is_waiting p (events_of fs ws) ≡ false → length ws + MOST_EVENTS ≤ capacity
kept_room fs ws n capacity p k low high idle =
    let none = among_none p ws (idle_is_not_among fs n ws p k.queued idle) in
    let less = times_room n MOST_EVENTS p (waiter_numbers_of ws) low high (queued_known fs n ws k.queued) k.few none in
    let long : length (waiter_numbers_of ws) ≡ length ws = length-map ws (λ w. w.process) in
    let room : n * MOST_EVENTS ≤ capacity = k.room in omega (arith, less, long, room)

pub kept_push : (fs : List EventEntry) (ws : List Waiting) (n capacity : ℕ) (w : Waiting) → IsKept fs ws n capacity → 1 ≤ w.process → w.process ≤ n
    → is_open w.place (events_of fs ws) ≡ true → is_waiting w.process (events_of fs ws) ≡ false → IsKept fs (ws ++ w ∷ []) n capacity
kept_push fs ws n capacity w k low high here idle =
    let free = idle_is_not_among fs n ws w.process k.queued idle in
    record {
      room = k.room;
      queued = queued_push fs n w low high (sym (open-shown w.place fs ws) ∙ here) ws (apart_none w ws free) k.queued;
      few = λ q.
          let is : times_in q (waiter_numbers_of (ws ++ w ∷ [])) ≡ times_in q (waiter_numbers_of ws) + times_in q (w.process ∷ []) =
          ap (times_in q) (map-append (λ v. v.process) ws (w ∷ [])) ∙ times_join q (waiter_numbers_of ws) (w.process ∷ []) in
          elim (cases_Bool (eqb q w.process)) [
            | inl e ↦
                let head : one_if (eqb q w.process) ≡ 1 = cond-true (eqb q w.process) 1 0 e in
                let none : times_in q (waiter_numbers_of ws) ≡ 0 = ap (λ m. times_in m (waiter_numbers_of ws)) (eqb-true q w.process e) ∙ among_none w.process ws free in
                omega arith
            | inr e ↦
                let head : one_if (eqb q w.process) ≡ 0 = cond-false (eqb q w.process) 1 0 e in
                let before = k.few q in
                omega arith
          ];
      within = k.within;
    }

-- a process joins those who wait for several events
pub kept_any : (fs : List EventEntry) (ws : List Waiting) (n capacity p : ℕ) (places : List Place) → IsKept fs ws n capacity → 1 ≤ p → p ≤ n
    → length places ≤ MOST_EVENTS → All (λ (a : Place). is_open a (events_of fs ws) ≡ true) places → is_waiting p (events_of fs ws) ≡ false
    → IsKept fs (ws ++ joiners p [] places) n capacity
kept_any fs ws n capacity p places k low high few_places open_all idle =
    let free = idle_is_not_among fs n ws p k.queued idle in
    let there = All-weaker (λ (a : Place). is_open a (events_of fs ws) ≡ true) (λ (a : Place). has_flags a fs ≡ true) (λ a e. sym (open-shown a fs ws) ∙ e) places open_all in
    record {
      room = k.room;
      queued = queued_any fs n p low high places there ws free k.queued;
      few = λ q.
          let is : times_in q (waiter_numbers_of (ws ++ joiners p [] places)) ≡ times_in q (waiter_numbers_of ws) + times_in q (waiter_numbers_of (joiners p [] places)) =
          ap (times_in q) (map-append (λ v. v.process) ws (joiners p [] places)) ∙ times_join q (waiter_numbers_of ws) (waiter_numbers_of (joiners p [] places)) in
          let joined = joiners_few p q [] places in
          elim (cases_Bool (eqb q p)) [
            | inl e ↦
                let none : times_in q (waiter_numbers_of ws) ≡ 0 = ap (λ m. times_in m (waiter_numbers_of ws)) (eqb-true q p e) ∙ among_none p ws free in
                let most = joined.0 in
                omega (arith, is, none, most, few_places)
            | inr e ↦
                let other = joined.1 e in
                let before = k.few q in
                omega (arith, is, other, before)
          ];
      within = k.within;
    }

pub kept_wider : (fs : List EventEntry) (ws : List Waiting) (n capacity more : ℕ) → IsKept fs ws n capacity → capacity ≤ more → IsKept fs ws n more
kept_wider fs ws n capacity more k wide =
    record { room = (let room : n * MOST_EVENTS ≤ capacity = k.room in omega (arith, room, wide)); queued = k.queued; few = k.few; within = k.within }

-- no more wait for one event to happen than there are processes, and each is one of them
pub kept_one : (fs : List EventEntry) (ws : List Waiting) (n capacity : ℕ) (at : Place) → IsKept fs ws n capacity → length (waiters_listed Waiters at ws) ≤ n
kept_one fs ws n capacity at k = room_one fs n Waiters at ws k.queued

-- ---- what changes the flags, and who goes

pub kept_set : (at : Place) (change : Flags → Flags) (fs : List EventEntry) (ws : List Waiting) (n capacity : ℕ) → IsKept fs ws n capacity
    → IsKept (set_flags at change fs) ws n capacity
kept_set at change fs ws n capacity k = record {
  room = k.room;
  queued = queued_flags fs (set_flags at change fs) n (λ p h. open-set at change fs p ∙ h) ws k.queued;
  few = k.few;
  within = λ p h. k.within p (sym (open-set at change fs p) ∙ h);
}

pub kept_filter : (r : Waiting → Bool) (fs : List EventEntry) (ws : List Waiting) (n capacity : ℕ) → IsKept fs ws n capacity → IsKept fs (filter r ws) n capacity
kept_filter r fs ws n capacity k = record {
  room = k.room;
  queued = queued_filter fs fs n r (λ w s h. h) ws k.queued;
  few = λ p. let less = times_filter (λ (w : Waiting). w.process) p r ws in let before = k.few p in omega arith;
  within = k.within;
}

pub kept_first : (r : Waiting → Bool) (fs : List EventEntry) (ws : List Waiting) (n capacity : ℕ) → IsKept fs ws n capacity → IsKept fs (without_first r ws) n capacity
kept_first r fs ws n capacity k = record {
  room = k.room;
  queued = queued_first fs fs n r (λ p h. h) ws k.queued;
  few = λ p. let less = times_first (λ (w : Waiting). w.process) p r ws in let before = k.few p in omega arith;
  within = k.within;
}

pub kept_closed : (r : Place → Bool) (fs : List EventEntry) (ws : List Waiting) (n capacity : ℕ) → IsKept fs ws n capacity
    → IsKept (filter (λ f. r f.0) fs) (filter (λ w. r w.place) ws) n capacity
kept_closed r fs ws n capacity k = record {
  room = k.room;
  queued = queued_filter fs (filter (λ f. r f.0) fs) n (λ w. r w.place) (λ w s h. open-filter r fs w.place s h) ws k.queued;
  few = λ p. let less = times_filter (λ (w : Waiting). w.process) p (λ w. r w.place) ws in let before = k.few p in omega arith;
  within = λ p h. k.within p (open-less r fs p h);
}

pub kept_opened : (at : Place) (flags : Flags) (fs : List EventEntry) (ws : List Waiting) (n capacity : ℕ) → at.at < 65536 → IsKept fs ws n capacity
    → IsKept (event_put (at, flags) (filter (λ g. not (same_place g.0 at)) fs)) (filter (λ w. not (same_place w.place at)) ws) n capacity
kept_opened at flags fs ws n capacity low k =
    let gs = filter (λ (g : EventEntry). not (same_place g.0 at)) fs in
    let vs = filter (λ (w : Waiting). not (same_place w.place at)) ws in
    let less = kept_closed (λ p. not (same_place p at)) fs ws n capacity k in
    record {
      room = k.room;
      queued = queued_flags gs (event_put (at, flags) gs) n (λ p h. open-put (at, flags) gs p ∙ or_right (same_place at p) (has_flags p gs) h) vs less.queued;
      few = less.few;
      within = λ p h. elim (or_cases (same_place at p) (has_flags p gs) (sym (open-put (at, flags) gs p) ∙ h)) [
        | inl e ↦ subst (λ (q : Place). q.at < 65536) (same_place_true at p e) low
        | inr e ↦ less.within p e
      ];
    }

waiters_is : (o : Option Event) → list_of Waiters o ≡ (state_of o).waiters
waiters_is None = refl
waiters_is (Some e) = refl

procurers_is : (o : Option Event) → list_of Procurers o ≡ (state_of o).procurers
procurers_is None = refl
procurers_is (Some e) = refl

pub woken_shown : (at : Place) (fs : List EventEntry) (ws : List Waiting) → is_open at (events_of fs ws) ≡ true
    → waiters_listed Waiters at ws ≡ waiters_at at (events_of fs ws)
woken_shown at fs ws h =
    sym (list_shown Waiters at fs ws h) ∙ waiters_is (event_at at (events_of fs ws))

pub procurers_shown : (at : Place) (fs : List EventEntry) (ws : List Waiting) → is_open at (events_of fs ws) ≡ true
    → waiters_listed Procurers at ws ≡ procurers_at at (events_of fs ws)
procurers_shown at fs ws h =
    sym (list_shown Procurers at fs ws h) ∙ procurers_is (event_at at (events_of fs ws))

-- who waits nowhere is not among those who wait
pub kept_idle : (fs : List EventEntry) (ws : List Waiting) (n capacity p : ℕ) → IsKept fs ws n capacity → is_waiting p (events_of fs ws) ≡ false → among p ws ≡ false
kept_idle fs ws n capacity p k idle = idle_is_not_among fs n ws p k.queued idle

-- all who wait for an event are released, and leave all events
pub event_released : (at : Place) (b : Bool) (fs : List EventEntry) (ws : List Waiting) (lists : List (List Place)) → AreNamed lists ws → is_open at (events_of fs ws) ≡ true
    → events_of (set_flags at (with_happened b) fs) (filter (λ w. not (is_named (waiters_listed Waiters at ws) lists w)) (filter (λ w. not (stands_in Waiters at w)) ws))
    ≡ withdrawn (waiters_at at (events_of fs ws)) (event_changed at (with_state (without_waiters b)) (events_of fs ws))
event_released at b fs ws lists named here =
    ap (events_of (set_flags at (with_happened b) fs)) (released_is at lists ws named)
    ∙ events_released at b fs ws
    ∙ ap (λ ps. withdrawn ps (event_changed at (with_state (without_waiters b)) (events_of fs ws))) (woken_shown at fs ws here)

passed_served : (xs : List ℕ) (p : ℕ) → slice_get xs 0 ≡ Some p → passed_on xs ≡ served
passed_served [] p h = cc
passed_served (x ∷ xs) p h = refl

none_nil : (xs : List ℕ) → slice_get xs 0 ≡ None → xs ≡ []
none_nil [] h = refl
none_nil (x ∷ xs) h = cc

pub first_taken : (xs : List ℕ) → slice_get xs 0 ≡ slice_get (take 1 xs) 0
first_taken [] = refl
first_taken (x ∷ xs) = refl

pub liberated_served : (at : Place) (p : ℕ) (fs : List EventEntry) (ws : List Waiting) → is_open at (events_of fs ws) ≡ true
    → slice_get (waiters_listed Procurers at ws) 0 ≡ Some p
    → events_of fs (without_first (stands_in Procurers at) ws) ≡ done_at (acts act.Liberate) 0 at (events_of fs ws)
liberated_served at p fs ws h first =
    let es = events_of fs ws in
    let same : passed_on (procurers_at at es) ≡ served =
    ap passed_on (sym (procurers_shown at fs ws h)) ∙ passed_served (waiters_listed Procurers at ws) p first in
    events_served at ws fs ∙ ap (λ f. event_changed at (with_state f) es) (sym same)

pub liberated_freed : (at : Place) (fs : List EventEntry) (ws : List Waiting) → is_open at (events_of fs ws) ≡ true
    → slice_get (waiters_listed Procurers at ws) 0 ≡ None
    → events_of (set_flags at (with_available true) fs) (without_first (stands_in Procurers at) ws) ≡ done_at (acts act.Liberate) 0 at (events_of fs ws)
liberated_freed at fs ws h first =
    let es = events_of fs ws in
    let none : waiters_listed Procurers at ws ≡ [] = none_nil (waiters_listed Procurers at ws) first in
    let same : passed_on (procurers_at at es) ≡ freed = ap passed_on (sym (procurers_shown at fs ws h) ∙ none) in
    events_freed at ws none fs ∙ ap (λ f. event_changed at (with_state f) es) (sym same)

pub took_goes : (b : Bool) (n : Next) → b ≡ true → Went ≡ took (cond b goes n)
took_goes b n h = sym (ap took (cond-true b goes n h))

pub took_waits : (b : Bool) (n : Next) → took n ≡ Waits → b ≡ false → Waits ≡ took (cond b goes n)
took_waits b n k h = sym (ap took (cond-false b goes n h) ∙ k)
