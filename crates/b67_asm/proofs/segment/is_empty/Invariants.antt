use Rattle.std.proofs.Common.{◌≡◌, drop}
use Rattle.b67_asm.specs.Rules.{is_empty}
use Rattle.b67_asm.proofs.segment.is_empty.Given as goal

abbrev pub invariant-lines : goal.invariant-lines
invariant-lines l = is_empty l.fn.lines ≡ is_empty (drop l.reading-index l.fn.lines)
