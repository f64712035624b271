use Rattle.std.proofs.Common.{drop}
use Rattle.algol_places.specs.Numbered.{PlaceNumbers}
use Rattle.algol_places.proofs.numbers_of.Given as goal

abbrev pub invariant-loop-number : goal.invariant-loop-number
invariant-loop-number l = PlaceNumbers l.numbers l.number (drop l.number l.spots)
