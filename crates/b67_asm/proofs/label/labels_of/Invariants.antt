use Rattle.std.proofs.Common.{◌-◌, length}
use Rattle.b67_asm.proofs.Gathering.{Gathered}
use Rattle.b67_asm.proofs.label.labels_of.Given as goal

abbrev pub invariant-lines : goal.invariant-lines
invariant-lines l = Gathered l.lines l.from l.labels l.at l.next

abbrev pub decreases-lines : goal.decreases-lines
decreases-lines l = length l.lines - l.next
