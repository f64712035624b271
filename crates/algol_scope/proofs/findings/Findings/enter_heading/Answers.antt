use Rattle.std.proofs.Common.{◌∙◌, refl}
use Rattle.algol_tree.specs.Cells as cells
use Rattle.b67_list.proofs.Answered.{on_ok}
use Rattle.algol_scope.proofs.Names.{heading_entered}
use Rattle.algol_scope.proofs.findings.Findings.enter_heading.Goals as goal

pub returns : goal.returns
returns c =
    on_ok c.cells_at.result
    (λ h a s.
    heading_entered c.args.self.now c.known_in_heading.new.self c.result_cell.new.self c.cells_at.new.self c.args.around.now.innermost.block c.args.h.now a
    c.as_slice.result.now (c.as_slice.ensures.value ∙ c.items.ensures) (c.in_ok-known_in_heading.ensures.knows a s) c.in_ok-result_cell.ensures
    (h cells.parameter refl))
    c.cells_at.ensures
