-- The frames that GOTO leaves.
use Rattle.std.specs.Prelude.{ℕ, Bool, List, [], ◌∷◌}
use Rattle.b67_word.specs.declared.Place.{Place}
use Rattle.b67_control.specs.declared.Registers.{Registers}
use Rattle.b67_events.specs.Events.{Event, closed_from}
use Rattle.b67_table.specs.Look.{Look, found, ◌>->◌}
use Rattle.b67_table.specs.Linkage.{is_critical}
use Rattle.b67_table.specs.GoingTo.{Passed, Passing, passed_by, passed_frames}
use Rattle.b67_linkage.specs.Leaving.{down_to}

-- whether one of the frames from one with so many cells down to a target is among these critical places
abbrev pub passes_critical : List Place → Place → ℕ → ℕ → Look Bool
passes_critical places from cells target = down_to from cells target >-> (λ (p : Passing). found (is_critical from.stack (passed_frames p.frames) places))

-- the same of a process and the frame to which it goes, which may lie in another stack
abbrev pub leaves_critical : List Place → Registers → Place → Look Bool
leaves_critical places r frame = passed_by r frame >-> (λ (p : Passing). found (is_critical r.stack (passed_frames p.frames) places))

-- each frame is left with its events, the newest first
abbrev pub without_events : ℕ → List Passed → List Event → List Event
without_events stack [] events = events
without_events stack (f ∷ fs) events = without_events stack fs (closed_from stack f.frame events)

-- the events that are open after all frames above a target are left
abbrev pub target_events : List Event → Place → ℕ → ℕ → Look (List Event)
target_events events from cells target = down_to from cells target >-> (λ (p : Passing). found (without_events from.stack p.frames events))
