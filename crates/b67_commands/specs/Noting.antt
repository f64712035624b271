-- What a walk over a schedule notes for the commands that look for stores, and where these lead by it.
use Rattle.std.specs.Prelude.{◌≡◌, ℕ, ◌+◌, ◌≤◌, ◌&&◌, nat_eq, nat_lt, if◌then◌else◌, Bool, false, List, [], ◌∷◌, length, drop, Option, Some, None, slice_get}
use Rattle.algol_tree.specs.Sorts.{same_name}
use Rattle.b67_commands.specs.declared.command.Command.{Command}
use Rattle.b67_commands.specs.declared.command.Command.TheVariants.{Store}
use Rattle.b67_commands.specs.declared.noting.Note.{Note}
use Rattle.b67_commands.specs.Positions.{Stored, to_store, position_moved, positions}

abbrev pub looks_for : Command → List ℕ → Bool
looks_for (Store other) name = same_name other name
looks_for _ name = false

-- the place of the first command that looks for stores under this name, where the first of these commands has that place
abbrev pub looked_from : ℕ → List Command → List ℕ → Option ℕ
looked_from place [] name = None
looked_from place (command ∷ commands) name = if looks_for command name then Some place else looked_from (place + 1) commands name

abbrev pub looked_for : List Command → List ℕ → Option ℕ
looked_for commands name = looked_from 0 commands name

abbrev pub looked_for_by : List Command → Option (List ℕ) → Option ℕ
looked_for_by commands None = None
looked_for_by commands (Some name) = looked_for commands name

-- a note of the entry with this number, if some command looks for what it stores
abbrev pub note_added : ℕ → Option ℕ → List Note → List Note
note_added number None notes = notes
note_added number (Some place) notes = record { entry = number; name = place } ∷ notes

-- of entries, the first of which has that number
abbrev pub notes_from : List Command → ℕ → Stored → List Note
notes_from commands number [] = []
notes_from commands number (entry ∷ rest) = note_added number (looked_for_by commands entry) (notes_from commands (number + 1) rest)

-- of all entries of a schedule
abbrev pub notes_of : List Command → Stored → List Note
notes_of commands stored = notes_from commands 1 stored

-- the first entry after the first k that is noted for that name, and else all
abbrev pub next_noted : List Note → ℕ → ℕ → ℕ → ℕ
next_noted [] all k name = all
next_noted (n ∷ notes) all k name = if nat_lt k n.entry && nat_eq n.name name then n.entry else next_noted notes all k name

-- Notes lead where the entries themselves do.
abbrev pub NotesLeadToTheNext : Type 0
NotesLeadToTheNext = (commands : List Command) (stored : Stored) (name : List ℕ) (place k : ℕ) → looked_for commands name ≡ Some place → k ≤ length stored
    → next_noted (notes_of commands stored) (length stored) k place ≡ k + to_store name (drop k stored)

-- ---- where commands lead by the notes

-- the command at this place leads there, given after the first k entries
abbrev pub MovesTo : List Command → List Note → ℕ → ℕ → ℕ → ℕ → Type 0
MovesTo commands notes all place k n =
    (command : Command) (stored : Stored) → slice_get commands place ≡ Some command → notes ≡ notes_of commands stored → all ≡ length stored → k ≤ all → n ≡ position_moved stored k command

-- where a console stands when it answers each of the commands
abbrev pub ArePositions : List Command → List Note → ℕ → List ℕ → Type 0
ArePositions commands notes all at = (stored : Stored) → notes ≡ notes_of commands stored → all ≡ length stored → at ≡ positions stored 0 commands
