use Rattle.std.proofs.Common.{◌≡◌, ◌++◌, take, codes}
use Rattle.std.specs.List.{flat_map}
use Rattle.b67_listing.specs.Formats.{phrase_text}
use Rattle.b67_listing.proofs.format.push_phrases.Given as goal

abbrev pub invariant-phrases : goal.invariant-phrases
invariant-phrases l = l.text.items ≡ l.initial.text.items ++ flat_map (λ phrase. codes "," ++ phrase_text phrase) (take l.phrase-index l.rest)
