-- Two events at work: a process waits for both.
use Rattle.std.specs.Prelude.{◌≡◌, true, false, Some, List, [], ◌∷◌}
use Rattle.b67_word.specs.declared.Place.{Place}
use Rattle.b67_deeds.specs.declared.EventAct.TheVariants as act
use Rattle.b67_deeds.specs.declared.EventTest.TheVariants as test
use Rattle.b67_deeds.specs.Deeds.{acts, tests, answers}
use Rattle.b67_events.specs.Events.{Event, Events, state_at, is_waiting, event_opened, deed_at, done_at, position_of, first_event_happened, waited_any, took_any}
use Rattle.b67_events.specs.declared.TookAny.TheVariants as any

abbrev pub first : Place
first = record { stack = 1; at = 3 }

abbrev pub second : Place
second = record { stack = 1; at = 4 }

abbrev pub both : List Place
both = first ∷ second ∷ []

abbrev pub fresh_events : List Event
fresh_events = event_opened second (event_opened first [])

-- process 1 waits for both
abbrev pub waiting : Events
waiting = waited_any (first_event_happened both fresh_events) both 1 (record { events = fresh_events; lists = []; room = 1 })

-- the second event happens
abbrev pub after_second : List Event
after_second = done_at (acts act.Cause) 0 second waiting.events

pub record TwoEventsAtWork : Type 0 where
  pub waits : took_any (first_event_happened both fresh_events) ≡ any.Waits
  pub stands : is_waiting 1 waiting.events ≡ true
  pub released : (deed_at (acts act.Cause) 0 second waiting.events).frees ≡ 1 ∷ []
  pub position : position_of second waiting.lists 1 ≡ Some 2
  pub nowhere : is_waiting 1 after_second ≡ false
  pub available : answers test.Available (state_at first after_second) ≡ true
  pub taken : answers test.Fix (state_at first after_second) ≡ false
  pub once : answers test.Fix (state_at first (done_at (tests test.Fix) 0 first after_second)) ≡ true
