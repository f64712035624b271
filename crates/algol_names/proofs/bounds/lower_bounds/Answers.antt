use Rattle.std.proofs.Common.{◌∙◌, drop}
use Rattle.std.proofs.lemmas.List.{drop_all}
use Rattle.std.specs.BTreeMap.{get}
use Rattle.algol_tree.specs.contracts.token.SpotOrd.TheImpl.{ghosts}
use Rattle.algol_cells.specs.Shown.{shown_cell}
use Rattle.algol_known.proofs.Extending.{same_at}
use Rattle.algol_names.specs.Kept.{kept}
use Rattle.algol_names.proofs.Kept.{all_kept, kept_same, lows_step}
use Rattle.algol_names.proofs.bounds.lower_bounds.Goals as goal

pub uses-preserved : goal.uses-preserved
uses-preserved c = λ spot.
    lows_step (kept c.args.lows.now) c.args.uses.now c.uses.u-index _ (shown_cell (get ghosts.cmp c.uses.table spot)) (shown_cell (get ghosts.cmp c.add_used.new.table spot)) spot
    c.uses-test.true (same_at c.args.uses.now c.uses.u-index _ _ c.uses-test.true) (c.in_ok-add_used.ensures spot)
    ∙ c.uses.invariant spot

pub returns : goal.returns
returns c = λ number.
    kept_same (kept c.args.lows.now) c.uses.table c.args.uses.now number
    (λ spot. all_kept (kept c.args.lows.now) c.args.uses.now (drop c.uses.u-index c.args.uses.now) (shown_cell (get ghosts.cmp c.uses.table spot)) spot
    (drop_all c.uses.u-index c.args.uses.now c.uses-test.false) (c.uses.invariant spot))
