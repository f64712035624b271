use Rattle.std.proofs.Common.{◌≡◌, take}
use Rattle.b67_segment.proofs.code.copy_formats.Given as goal

abbrev pub invariant-loop-format : goal.invariant-loop-format
invariant-loop-format l = l.copies.items ≡ take l.format-index l.formats
