use Rattle.algol_frames.proofs.Laid.{laid}
use Rattle.algol_frames.proofs.layout.scopes_laid.Goals as goal

pub returns : goal.returns
returns c =
    laid c.args.blocks.now c.args.table.now c.args.cells.now c.args.uses.now c.as_slice-frames.result.now c.in_ok-framed.framed.items
    c.as_slice-frames.ensures.value c.in_ok-framed.ensures _ c.in_ok-declared.ensures c.in_ok-results.ensures c.in_ok-actuals.ensures c.in_ok-levels.ensures
    c.in_ok-parameters.ensures c.in_ok-numbers.ensures
