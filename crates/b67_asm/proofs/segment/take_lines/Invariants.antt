use Rattle.std.proofs.Common.{◌-◌, length}
use Rattle.b67_asm.specs.Labels.{found_in}
use Rattle.b67_asm.proofs.Segments.{Along}
use Rattle.b67_asm.proofs.segment.take_lines.Given as goal

abbrev pub invariant-lines : goal.invariant-lines
invariant-lines l = Along (found_in l.labels) l.lines l.from l.level l.builder l.next

abbrev pub decreases-lines : goal.decreases-lines
decreases-lines l = length l.lines - l.next
