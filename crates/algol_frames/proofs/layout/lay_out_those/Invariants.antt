use Rattle.std.proofs.Common.{◌≡◌, ◌+◌, ◌≤◌, length, drop}
use Rattle.std.specs.Option.{option_or}
use Rattle.std.specs.BTreeMap.{get}
use Rattle.algol_tree.specs.declared.token.Spot.{Spot}
use Rattle.algol_tree.specs.contracts.token.SpotOrd.TheImpl.{ghosts}
use Rattle.algol_frames.specs.Laying.{couple_from, those_holding}
use Rattle.algol_frames.proofs.layout.lay_out_those.Given as goal

abbrev pub invariant-cells : goal.invariant-cells
invariant-cells l =
    record {
      within : l.index ≤ l.first + l.cell-index;
      count : l.index + length (those_holding l.content (drop l.cell-index l.cells)) ≡ l.first + length (those_holding l.content l.cells);
      frame :
          (q : Spot) → option_or (get ghosts.cmp l.frame q) (couple_from l.level l.index (those_holding l.content (drop l.cell-index l.cells)) q) ≡
          option_or (get ghosts.cmp l.initial.frame q) (couple_from l.level l.first (those_holding l.content l.cells) q);
    }
