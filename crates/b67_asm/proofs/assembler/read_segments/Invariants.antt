use Rattle.std.proofs.Common.{◌-◌, length}
use Rattle.b67_asm.proofs.Segments.{SoFar}
use Rattle.b67_asm.proofs.assembler.read_segments.Given as goal

abbrev pub invariant-segments : goal.invariant-segments
invariant-segments l = SoFar l.lines l.from l.at l.segments.items

abbrev pub decreases-segments : goal.decreases-segments
decreases-segments l = length l.lines - l.at
