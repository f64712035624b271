use Rattle.std.proofs.Common.{◌≡◌, drop}
use Rattle.b67_commands.specs.Noting.{next_noted}
use Rattle.b67_commands.proofs.noting.next_noted.Given as goal

abbrev pub invariant-notes : goal.invariant-notes
invariant-notes l = next_noted l.fn.notes l.all l.k l.name ≡ next_noted (drop l.note-index l.fn.notes) l.all l.k l.name
