use Rattle.std.proofs.Common.{◌≡◌, drop}
use Rattle.algol_tree.specs.declared.token.Spot.{Spot}
use Rattle.algol_tree.specs.Image.{pairs}
use Rattle.algol_paths.specs.Arrays.{or_lows}
use Rattle.algol_lows.specs.Lows.{lows_named, own_lows, lows_found_under}
use Rattle.algol_lows.proofs.bounds.add_names.Given as goal

abbrev pub invariant-names : goal.invariant-names
invariant-names l =
    (spot : Spot) → or_lows (lows_found_under l.table spot) (lows_named (drop l.n-index l.names) (own_lows (pairs l.pairs)) spot) ≡
    or_lows (lows_found_under l.initial.table spot) (lows_named l.names (own_lows (pairs l.pairs)) spot)
