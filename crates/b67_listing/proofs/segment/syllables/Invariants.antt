use Rattle.std.proofs.Common.{◌≡◌, ◌++◌, drop}
use Rattle.b67_segment.specs.Syllables.{syllables}
use Rattle.b67_listing.proofs.segment.syllables.Given as goal

abbrev pub invariant-words : goal.invariant-words
invariant-words l = l.bytes.items ++ syllables (drop l.word-index l.words) ≡ syllables l.words
