use Rattle.std.proofs.Common.{◌≡◌, ◌++◌, drop}
use Rattle.algol_tree.specs.declared.token.Spot.{Spot}
use Rattle.algol_sites.specs.Labelling.{places_in, those_of}
use Rattle.algol_sites.proofs.label.gather.Given as goal

abbrev pub invariant-standings : goal.invariant-standings
invariant-standings l = (q : Spot) → places_in l.found q ++ those_of (drop l.standing-index l.standings) q ≡ those_of l.fn.standings q
