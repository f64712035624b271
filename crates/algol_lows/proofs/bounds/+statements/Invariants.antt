use Rattle.std.proofs.Common.{◌≡◌, drop}
use Rattle.algol_tree.specs.declared.token.Spot.{Spot}
use Rattle.algol_tree.specs.Image.{decls, stmts}
use Rattle.algol_paths.specs.Arrays.{or_lows}
use Rattle.algol_lows.specs.Lows.{lows_in_decls, lows_in_stmts, lows_found_under}
use Rattle.algol_lows.proofs.bounds.+statements.Given as goal

abbrev pub invariant-add_in_stmts-statements : goal.invariant-add_in_stmts-statements
invariant-add_in_stmts-statements l =
    (spot : Spot) → or_lows (lows_found_under l.table spot) (lows_in_stmts l.scopes (stmts (drop l.s-index l.ss)) spot) ≡
    or_lows (lows_found_under l.initial.table spot) (lows_in_stmts l.scopes (stmts l.ss) spot)

abbrev pub invariant-add_in_decls-declarations : goal.invariant-add_in_decls-declarations
invariant-add_in_decls-declarations l =
    (spot : Spot) → or_lows (lows_found_under l.table spot) (lows_in_decls l.scopes (decls (drop l.d-index l.ds)) spot) ≡
    or_lows (lows_found_under l.initial.table spot) (lows_in_decls l.scopes (decls l.ds) spot)
