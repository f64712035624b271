-- A map from places to numbers.
use Rattle.std.specs.Prelude.{◌≡◌, ℕ, List}
use Rattle.std.specs.declared.cmp.Ordering.{Ordering}
use Rattle.std.specs.Ordering.{nat_cmp, ordering_then}
use Rattle.std.specs.BTreeMap.{BTreeMap, get_by}
use Rattle.algol_tree.specs.declared.token.Spot.{Spot}
use Rattle.algol_places.specs.Numbers.{number_from}

-- the order of places that a map has
abbrev pub place_order : Spot → Spot → Ordering
place_order a b = ordering_then (nat_cmp a.line b.line) (nat_cmp a.column b.column)

-- it has the number of the first of these at each place, where the first of them has the number k
abbrev pub PlaceNumbers : BTreeMap Spot ℕ → ℕ → List Spot → Type 0
PlaceNumbers m k ps = (spot : Spot) → get_by (place_order spot) m ≡ number_from k ps spot
