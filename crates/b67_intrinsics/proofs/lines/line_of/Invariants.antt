use Rattle.std.proofs.Common.{◌≤◌, length}
use Rattle.b67_intrinsics.proofs.Phrases.{IsBegun}
use Rattle.b67_intrinsics.proofs.lines.line_of.Given as goal

abbrev pub invariant-phrases : goal.invariant-phrases
invariant-phrases l = record {
  begun : IsBegun l.fn.format.phrases l.fn.items l.text.items l.phrase-index l.used;
  within : l.used ≤ length l.fn.items;
}
