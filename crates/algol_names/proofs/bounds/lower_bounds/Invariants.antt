use Rattle.std.proofs.Common.{◌≡◌, drop}
use Rattle.std.specs.Option.{option_or}
use Rattle.std.specs.BTreeMap.{get}
use Rattle.algol_tree.specs.declared.token.Spot.{Spot}
use Rattle.algol_tree.specs.contracts.token.SpotOrd.TheImpl.{ghosts}
use Rattle.algol_cells.specs.Shown.{shown_cell}
use Rattle.algol_names.specs.Kept.{kept, lows_from}
use Rattle.algol_names.proofs.bounds.lower_bounds.Given as goal

abbrev pub invariant-uses : goal.invariant-uses
invariant-uses l =
    (spot : Spot) → option_or (shown_cell (get ghosts.cmp l.table spot)) (lows_from (kept l.lows) (drop l.u-index l.uses) spot) ≡ lows_from (kept l.lows) l.uses spot
