use Rattle.std.proofs.Common.{◌≡◌, ◌≤◌, ◌++◌, length, drop}
use Rattle.b67_commands.specs.Positions.{Stored, positions}
use Rattle.b67_commands.specs.Noting.{notes_of}
use Rattle.b67_commands.proofs.noting.positions.Given as goal

abbrev pub invariant-commands : goal.invariant-commands
invariant-commands l =
    (stored : Stored) → l.notes ≡ notes_of l.commands stored → l.all ≡ length stored
    → (l.k ≤ l.all) × (l.at.items ++ positions stored l.k (drop l.place l.commands) ≡ positions stored 0 l.commands)
