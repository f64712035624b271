use Rattle.std.proofs.Common.{◌≡◌, drop}
use Rattle.std.specs.Option.{option_or}
use Rattle.std.specs.BTreeMap.{get}
use Rattle.algol_tree.specs.declared.token.Spot.{Spot}
use Rattle.algol_tree.specs.contracts.token.SpotOrd.TheImpl.{ghosts}
use Rattle.algol_frames.specs.Laying.{actual_from, framed_in}
use Rattle.algol_frames.proofs.layout.actuals.Given as goal

abbrev pub invariant-cells : goal.invariant-cells
invariant-cells l =
    (q : Spot) → option_or (get ghosts.cmp l.actuals q) (actual_from (framed_in l.frames) (drop l.cell-index l.cells) q) ≡
    actual_from (framed_in l.frames) l.cells q
