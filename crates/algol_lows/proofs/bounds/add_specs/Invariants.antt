use Rattle.std.proofs.Common.{◌≡◌, drop}
use Rattle.algol_tree.specs.declared.token.Spot.{Spot}
use Rattle.algol_paths.specs.Arrays.{or_lows}
use Rattle.algol_lows.specs.Lows.{lows_of_specs, lows_found_under}
use Rattle.algol_lows.proofs.bounds.add_specs.Given as goal

abbrev pub invariant-specs : goal.invariant-specs
invariant-specs l =
    (spot : Spot) → or_lows (lows_found_under l.table spot) (lows_of_specs l.scopes (drop l.spec-index l.specs) spot) ≡
    or_lows (lows_found_under l.initial.table spot) (lows_of_specs l.scopes l.specs spot)
