-- The clocks of processes and events, as the code keeps them.
use Rattle.std.specs.Prelude.{ℕ, max, Bool, true, false, List, [], Option, Some, None, slice_get}
use Rattle.std.specs.BTreeMap.{BTreeMap, get_by}
use Rattle.b67_race.specs.Entries.{CellName, Signal, nothing, sets, goes_by, frees, takes}
use Rattle.b67_race.specs.Times.{time_of}
use Rattle.b67_race.specs.Cells.{cell_order, cell_at_key}
use Rattle.b67_race.specs.declared.cells.Key.{Key}
use Rattle.b67_race.specs.declared.timing.Event.{Event}
use Rattle.b67_race.specs.declared.timing.Event.TheVariants as events

-- a clock that is not there tells nothing
abbrev pub or_empty : Option (List ℕ) → List ℕ
or_empty None = []
or_empty (Some clock) = clock

-- what the clock of a process tells; the clocks stand by their processes from 0 on
abbrev pub time_in : List (List ℕ) → ℕ → ℕ → ℕ
time_in clocks p q = time_of (or_empty (slice_get clocks p)) q

-- what the clock of an event tells
abbrev pub event_time : BTreeMap Key (List ℕ) → CellName → ℕ → ℕ
event_time clocks c q = time_of (or_empty (get_by (cell_order c) clocks)) q

abbrev pub signal_of : Event → Signal
signal_of events.Nothing = nothing
signal_of (events.Sets k) = sets (cell_at_key k)
signal_of (events.GoesBy k) = goes_by (cell_at_key k)
signal_of (events.Frees k) = frees (cell_at_key k)
signal_of (events.Takes k) = takes (cell_at_key k)

abbrev pub joined_if : Bool → ℕ → ℕ → ℕ
joined_if true old own = max old own
joined_if false old own = old
