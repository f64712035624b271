use Rattle.std.proofs.Common.{◌-◌, length}
use Rattle.b67_listing_reader.proofs.Quoted.{QuotedSoFar}
use Rattle.b67_listing_reader.proofs.phrases.quote_place.Given as goal

abbrev pub invariant-text : goal.invariant-text
invariant-text l = QuotedSoFar l.text l.at l.end

abbrev pub decreases-text : goal.decreases-text
decreases-text l = length l.text - l.end
