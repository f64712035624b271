use Rattle.std.proofs.Common.{◌≡◌, take}
use Rattle.b67_flat.proofs.flat_core.again.same_words.Given as goal

abbrev pub invariant-words : goal.invariant-words
invariant-words l = take l.index l.ours ≡ take l.index l.theirs
