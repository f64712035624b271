use Rattle.std.proofs.Common.{length}
use Rattle.b67_commands.proofs.Lines.{Stands}
use Rattle.b67_commands.proofs.reading.push_commands.Given as goal

abbrev pub invariant-lines : goal.invariant-lines
invariant-lines l = Stands l.bytes l.commands.items l.rest

abbrev pub decreases-lines : goal.decreases-lines
decreases-lines l = length l.rest
