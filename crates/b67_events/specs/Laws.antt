-- The events are a map from places: what an action changes, it changes at one place.
use Rattle.std.specs.Prelude.{◌≡◌, ◌≢◌, ℕ, false, Some, None, is_some, List, [], ◌∷◌, if◌then◌else◌}
use Rattle.std.specs.Option.{option_map}
use Rattle.b67_word.specs.declared.Place.{Place}
use Rattle.b67_events.specs.Events.{Event, event_at, is_open, is_from, event_changed, fresh, event_opened, closed_from}

-- a change of an event that leaves it at its place
abbrev pub StaysInPlace : (Event → Event) → Type 0
StaysInPlace change = (e : Event) → (change e).place ≡ e.place

-- no two events are open at one place
abbrev pub EventsAreApart : List Event → Type 0
EventsAreApart [] = Unit {0}
EventsAreApart (e ∷ es) = (is_open e.place es ≡ false) × EventsAreApart es

pub record OneEventChanges : Type 0 where
  -- the event at the place is changed, and what is open elsewhere stays
  pub here : (at : Place) (change : Event → Event) → StaysInPlace change → (es : List Event)
      → event_at at (event_changed at change es) ≡ option_map change (event_at at es)
  pub elsewhere : (at to : Place) (change : Event → Event) → StaysInPlace change → to ≢ at → (es : List Event)
      → event_at to (event_changed at change es) ≡ event_at to es
  -- a fresh event is at the place where it is opened, and what is open elsewhere stays
  pub opened_here : (at : Place) (es : List Event) → event_at at (event_opened at es) ≡ Some (fresh at)
  pub opened_elsewhere : (at to : Place) → to ≢ at → (es : List Event) → event_at to (event_opened at es) ≡ event_at to es
  -- what is closed is there no more, and all else stays
  pub closed_there : (stack low : ℕ) (to : Place) (es : List Event)
      → event_at to (closed_from stack low es) ≡ (if is_from stack low to then None else event_at to es)
  -- an event is open where there is one
  pub found : (at : Place) (es : List Event) → is_open at es ≡ is_some (event_at at es)

pub record EventsStayApart : Type 0 where
  pub by_change : (at : Place) (change : Event → Event) → StaysInPlace change → (es : List Event) → EventsAreApart es → EventsAreApart (event_changed at change es)
  pub by_opening : (at : Place) (es : List Event) → EventsAreApart es → EventsAreApart (event_opened at es)
  pub by_closing : (stack low : ℕ) (es : List Event) → EventsAreApart es → EventsAreApart (closed_from stack low es)
