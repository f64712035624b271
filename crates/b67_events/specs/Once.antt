-- Each process stands once in each list, whatever is done to the events; and who is released waits nowhere.
use Rattle.std.specs.Prelude.{◌≡◌, ◌⊎◌, ℕ, ◌+◌, ◌≤◌, ◌==◌, Bool, true, false, All, List, [], ◌∷◌, if◌then◌else◌}
use Rattle.std.specs.List.{list_any}
use Rattle.b67_word.specs.declared.Place.{Place}
use Rattle.b67_deeds.specs.Events.{EventState}
use Rattle.b67_deeds.specs.Deeds.{EventDeed, Next, goes, waits, procures}
use Rattle.b67_events.specs.Events.{Event, is_waiting, waiter_is_one_of, event_opened, closed_from, deed_at, done_at, joined_all}
use Rattle.b67_events.specs.Laws.{EventsAreApart}

-- how often a process stands in a list
abbrev pub times_in : ℕ → List ℕ → ℕ
times_in p [] = 0
times_in p (q ∷ qs) = (if p == q then 1 else 0) + times_in p qs

-- how often it stands in such lists of the events
abbrev pub waiting_times : (EventState → List ℕ) → ℕ → List Event → ℕ
waiting_times lists p [] = 0
waiting_times lists p (e ∷ es) = times_in p (lists e.state) + waiting_times lists p es

-- the lists of those who wait for an event, to happen or to be procured
abbrev pub waiters_of : EventState → List ℕ
waiters_of e = e.waiters

abbrev pub procurers_of : EventState → List ℕ
procurers_of e = e.procurers

-- a process waits once, at the most, for each event to happen; and it waits to procure one event, at the most, and once
pub record EachOnce (es : List Event) : Type 0 where
  pub waiting : (p : ℕ) → All (λ e. times_in p e.state.waiters ≤ 1) es
  pub procuring : (p : ℕ) → waiting_times procurers_of p es ≤ 1

-- who has to wait has waited nowhere, and no two events are open at one place
abbrev pub MayWait : Next → ℕ → List Event → Type 0
MayWait goes p es = Unit {0}
MayWait waits p es = EventsAreApart es × (is_waiting p es ≡ false)
MayWait procures p es = EventsAreApart es × (is_waiting p es ≡ false)

pub record EachWaitsOnce : Type 0 where
  pub by_deed : (x : EventDeed) (p : ℕ) (at : Place) (es : List Event) → MayWait (deed_at x p at es).next p es → EachOnce es
      → EachOnce (done_at x p at es)
  -- where it joins several events
  pub by_several : (places : List Place) (p : ℕ) (es : List Event) → is_waiting p es ≡ false → EachOnce es → EachOnce (joined_all places p es)
  pub by_opening : (at : Place) (es : List Event) → EachOnce es → EachOnce (event_opened at es)
  pub by_closing : (stack low : ℕ) (es : List Event) → EachOnce es → EachOnce (closed_from stack low es)

-- whether a process waits for some event to happen
abbrev pub is_waiter : ℕ → List Event → Bool
is_waiter p es = list_any (λ e. list_any (λ q. p == q) e.state.waiters) es

-- a process waits in one way: to procure nothing, or once to procure and for nothing to happen
abbrev pub WaitsOneWay : ℕ → List Event → Type 0
WaitsOneWay p es = (waiting_times procurers_of p es ≡ 0) ⊎ ((waiting_times waiters_of p es ≡ 0) × (waiting_times procurers_of p es ≤ 1))

pub record ReleasedWaitNowhere : Type 0 where
  -- who is withdrawn by a deed waits for no event to happen any more, for however many it waited
  pub withdrawn : (x : EventDeed) (p q : ℕ) (at : Place) (es : List Event) → waiter_is_one_of (deed_at x p at es).withdraws q ≡ true
      → is_waiter q (done_at x p at es) ≡ false
  -- who waited in one way, and is freed by a deed, waits nowhere
  pub freed : (x : EventDeed) (p q : ℕ) (at : Place) (es : List Event) → WaitsOneWay q es → waiter_is_one_of (deed_at x p at es).frees q ≡ true
      → is_waiting q (done_at x p at es) ≡ false
