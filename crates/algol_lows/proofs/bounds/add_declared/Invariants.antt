use Rattle.std.proofs.Common.{◌≡◌, drop}
use Rattle.algol_tree.specs.declared.token.Spot.{Spot}
use Rattle.algol_tree.specs.Image.{decls}
use Rattle.algol_paths.specs.Arrays.{or_lows}
use Rattle.algol_lows.specs.Lows.{lows_begun, lows_found_under}
use Rattle.algol_lows.proofs.bounds.add_declared.Given as goal

abbrev pub invariant-declarations : goal.invariant-declarations
invariant-declarations l =
    (spot : Spot) → or_lows (lows_found_under l.table spot) (lows_begun l.scopes (decls (drop l.d-index l.ds)) spot) ≡
    or_lows (lows_found_under l.initial.table spot) (lows_begun l.scopes (decls l.ds) spot)
