use Rattle.std.proofs.Common.{◌≡◌, take}
use Rattle.b67_segment.proofs.code.copy_phrases.Given as goal

abbrev pub invariant-loop-phrase : goal.invariant-loop-phrase
invariant-loop-phrase l = l.copies.items ≡ take l.phrase-index l.phrases
