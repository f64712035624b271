use Rattle.std.proofs.Common.{◌≡◌, ◌++◌, take}
use Rattle.std.specs.List.{flat_map}
use Rattle.b67_listing.specs.Digits.{last_digits}
use Rattle.b67_listing.proofs.text.push_syllables.Given as goal

abbrev pub invariant-syllables : goal.invariant-syllables
invariant-syllables l = l.text.items ≡ l.initial.text.items ++ flat_map (last_digits 16 2) (take l.syllable-index l.syllables)
