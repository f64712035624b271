-- Events at places, what each deed does to them, and the processes that wait for several.
use Rattle.std.specs.Prelude.{ℕ, zero, suc, ◌+◌, Bool, true, false, not, ◌&&◌, ◌||◌, ◌==◌, nat_lt, nat_le, Option, Some, None, List, [], ◌∷◌, ◌++◌, map, filter, find, if◌then◌else◌}
use Rattle.std.specs.List.{list_any}
use Rattle.b67_word.specs.declared.Place.{Place}
use Rattle.b67_list.specs.Numbered.{numbered, set_numbered}
use Rattle.b67_deeds.specs.declared.EventTest.TheVariants as test
use Rattle.b67_deeds.specs.Events.{EventState, fresh_state, joined, left_by}
use Rattle.b67_deeds.specs.Deeds.{EventDeed, Deed, Next, goes, waits, procures, answers, deed}
use Rattle.b67_events.specs.declared.Took.{Took}
use Rattle.b67_events.specs.declared.Took.TheVariants.{Went, Waits}
use Rattle.b67_events.specs.declared.TookAny.{TookAny}
use Rattle.b67_events.specs.declared.TookAny.TheVariants as any

-- an event that is open at a place, and its state
pub record Event : Type 0 where
  pub place : Place
  pub state : EventState

-- the events that are open, in the order of their places; by the processes' numbers from 1 the places of the events for which each waits,
-- where it waits for several, in the order in which they are named; and the number of processes that there is room for
pub record Events : Type 0 where
  pub events : List Event
  pub lists : List (List Place)
  pub room : ℕ

abbrev pub same_place : Place → Place → Bool
same_place p q = p.stack == q.stack && p.at == q.at

-- the event that is open at a place
abbrev pub event_at : Place → List Event → Option Event
event_at at events = find (λ e. same_place e.place at) events

abbrev pub is_open : Place → List Event → Bool
is_open at events = list_any (λ e. same_place e.place at) events

-- the state of an event; where none is open, it has not happened, is not available, and nobody waits for it
abbrev pub state_of : Option Event → EventState
state_of (Some e) = e.state
state_of None = record { happened = false; available = false; waiters = []; procurers = [] }

abbrev pub state_at : Place → List Event → EventState
state_at at events = state_of (event_at at events)

abbrev pub happened_at : Place → List Event → Bool
happened_at at events = (state_at at events).happened

abbrev pub available_at : Place → List Event → Bool
available_at at events = (state_at at events).available

abbrev pub waiters_at : Place → List Event → List ℕ
waiters_at at events = (state_at at events).waiters

abbrev pub procurers_at : Place → List Event → List ℕ
procurers_at at events = (state_at at events).procurers

-- whether a process waits for an event, to happen or to be procured
abbrev pub is_waiting : ℕ → List Event → Bool
is_waiting process events = list_any (λ e. list_any (λ p. process == p) (e.state.waiters ++ e.state.procurers)) events

-- the event at a place is changed, and every other one stays
abbrev pub event_changed : Place → (Event → Event) → List Event → List Event
event_changed at change events = map (λ e. if same_place e.place at then change e else e) events

abbrev pub fresh : Place → Event
fresh at = record { place = at; state = fresh_state }

-- whether a place stands before another: in an earlier stack, or lower in the same
abbrev pub is_before : Place → Place → Bool
is_before p q = nat_lt p.stack q.stack || p.stack == q.stack && nat_lt p.at q.at

-- an event stands before the first one whose place is after its own
abbrev pub placed : Event → List Event → List Event
placed e [] = e ∷ []
placed e (x ∷ xs) = if is_before e.place x.place then e ∷ x ∷ xs else x ∷ placed e xs

-- a fresh event is opened, in place of one that is open there
abbrev pub event_opened : Place → List Event → List Event
event_opened at events = placed (fresh at) (filter (λ e. not (same_place e.place at)) events)

-- whether a place lies in this stack at this displacement or above
abbrev pub is_from : ℕ → ℕ → Place → Bool
is_from stack at p = p.stack == stack && nat_le at p.at

-- the events of a stack at a displacement and above are closed
abbrev pub closed_from : ℕ → ℕ → List Event → List Event
closed_from stack at events = filter (λ e. not (is_from stack at e.place)) events

-- its state is changed, and it stays at its place
abbrev pub with_state : (EventState → EventState) → Event → Event
with_state change e = record e { state = change e.state }

-- the event at a place is changed so, if it is
abbrev pub changed_by : Option (EventState → EventState) → Place → List Event → List Event
changed_by None at events = events
changed_by (Some change) at events = event_changed at (with_state change) events

-- what a process does with the event at a place
abbrev pub deed_at : EventDeed → ℕ → Place → List Event → Deed
deed_at x process at events = deed x process (state_at at events)

-- whether a process is one of these
abbrev pub waiter_is_one_of : List ℕ → ℕ → Bool
waiter_is_one_of ps p = list_any (λ q. p == q) ps

-- these processes wait for no event to happen any more
abbrev pub withdrawn : List ℕ → List Event → List Event
withdrawn [] events = events
withdrawn (p ∷ ps) events = withdrawn ps (map (with_state (left_by p)) events)

-- the events after a deed with the one at a place, and when a process has done that
abbrev pub after_deed : Deed → Place → List Event → List Event
after_deed d at events = withdrawn d.withdraws (changed_by d.change at events)

abbrev pub done_at : EventDeed → ℕ → Place → List Event → List Event
done_at x process at events = after_deed (deed_at x process at events) at events

-- ---- several events

-- the places of the events for which a process waits, where it waits for several
abbrev pub list_of : ℕ → List (List Place) → List Place
list_of p lists = or_none (numbered lists p)
  where
    or_none : Option (List Place) → List Place
    or_none None = []
    or_none (Some places) = places

-- whether it waits for several
abbrev pub is_listed : ℕ → List (List Place) → Bool
is_listed p lists = list_any (λ at. true) (list_of p lists)

-- a process waits for these; those who are not there yet wait for none
abbrev pub with_list : List (List Place) → ℕ → List Place → List (List Place)
with_list lists zero places = lists
with_list [] (suc zero) places = places ∷ []
with_list (l ∷ lists) (suc zero) places = places ∷ lists
with_list [] (suc (suc p)) places = [] ∷ with_list [] (suc p) places
with_list (l ∷ lists) (suc (suc p)) places = l ∷ with_list lists (suc p) places

-- these processes wait for several events no more
abbrev pub unlisted : List ℕ → List (List Place) → List (List Place)
unlisted [] lists = lists
unlisted (p ∷ ps) lists = unlisted ps (set_numbered lists p [])

-- the first of some places that passes a test, counted from a number on
abbrev pub first_that : (Place → Bool) → ℕ → List Place → Option ℕ
first_that test n [] = None
first_that test n (at ∷ places) = if test at then Some n else first_that test (n + 1) places

-- the first, from 1, of which the event lets a process go on
abbrev pub first_event_happened : List Place → List Event → Option ℕ
first_event_happened places events = first_that (λ at. answers test.WaitAny (state_at at events)) 1 places

-- a position as a number, 0 where there is none
abbrev pub position_number_of : Option ℕ → ℕ
position_number_of None = 0
position_number_of (Some position) = position

-- the first place, from 1, of an event among those for which a process waits
abbrev pub position_of : Place → List (List Place) → ℕ → Option ℕ
position_of at lists p = first_that (λ place. same_place place at) 1 (list_of p lists)

abbrev pub event_is_among : List Place → Place → Bool
event_is_among places at = list_any (λ place. same_place place at) places

-- a process joins those who wait for each of these
abbrev pub joined_all : List Place → ℕ → List Event → List Event
joined_all places process events = map (λ e. if event_is_among places e.place then with_state (joined process) e else e) events

-- it goes on where one of them has happened, else it waits for all of them
abbrev pub waited_any : Option ℕ → List Place → ℕ → Events → Events
waited_any (Some position) places process k = k
waited_any None places process k = record k { events = joined_all places process k.events; lists = with_list k.lists process places }

-- it goes on by an event, or it waits
abbrev pub took_any : Option ℕ → TookAny
took_any (Some position) = any.Went position
took_any None = any.Waits

-- a process goes on, or it waits
abbrev pub took : Next → Took
took goes = Went
took waits = Waits
took procures = Waits
