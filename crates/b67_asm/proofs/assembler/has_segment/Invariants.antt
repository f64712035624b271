use Rattle.std.proofs.Common.{◌≡◌, drop}
use Rattle.b67_asm.specs.Rules.{has_segment}
use Rattle.b67_asm.proofs.assembler.has_segment.Given as goal

abbrev pub invariant-lines : goal.invariant-lines
invariant-lines l = has_segment l.fn.lines ≡ has_segment (drop l.reading-index l.fn.lines)
