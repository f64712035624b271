use Rattle.std.proofs.Common.{◌≡◌, drop}
use Rattle.algol_tree.specs.declared.token.Spot.{Spot}
use Rattle.algol_paths.specs.Arrays.{or_lows}
use Rattle.algol_lows.specs.Lows.{lows_of_names, lows_found_under}
use Rattle.algol_lows.proofs.bounds.add_parameters.Given as goal

abbrev pub invariant-names : goal.invariant-names
invariant-names l =
    (spot : Spot) → or_lows (lows_found_under l.table spot) (lows_of_names l.scopes (drop l.n-index l.names) l.lows spot) ≡
    or_lows (lows_found_under l.initial.table spot) (lows_of_names l.scopes l.names l.lows spot)
