use Rattle.algol_tree.specs.Image as image
use Rattle.algol_scope.proofs.Found.{limits_noted}
use Rattle.algol_scope.proofs.whole.note_limits.Goals as goal

pub returns-clause-faults : goal.returns-clause-faults
returns-clause-faults c =
    limits_noted (image.program c.args.program.now) c.as_slice-blocks.result.now c.args.found.now.blocks.items c.args.cells.now _ _ _ _ _
    c.as_slice-blocks.ensures.value c.note_levels.ensures c.note_cells.ensures c.in_ok-note_procedures.ensures c.note_program.ensures
