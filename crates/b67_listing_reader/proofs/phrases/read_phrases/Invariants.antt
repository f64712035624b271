use Rattle.std.proofs.Common.{◌-◌, length}
use Rattle.b67_listing_reader.proofs.PhraseReading.{PhrasesSoFar}
use Rattle.b67_listing_reader.proofs.phrases.read_phrases.Given as goal

abbrev pub invariant-phrases : goal.invariant-phrases
invariant-phrases l = PhrasesSoFar l.text l.at l.next l.phrases.items

abbrev pub decreases-phrases : goal.decreases-phrases
decreases-phrases l = length l.text - l.next
