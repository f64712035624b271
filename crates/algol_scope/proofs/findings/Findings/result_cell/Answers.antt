use Rattle.std.proofs.Common.{refl, sym, ◌∙◌}
use Rattle.algol_tree.specs.Cells as cells
use Rattle.algol_frames.specs.declared.found.Content.TheVariants as content
use Rattle.algol_scope.proofs.Names.{cell_at, result_none, result_some}
use Rattle.algol_scope.proofs.findings.Findings.result_cell.Goals as goal

pub returns-in_ok-push : goal.returns-in_ok-push
returns-in_ok-push c =
    result_some c.args.self.now _ c.args.around.now.innermost.block c.args.h.now (sym c.is_some.ensures ∙ c.if-is_some.true)
    (cell_at c.args.self.now _ c.args.around.now.innermost.block c.block.result cells.result content.Result c.args.h.now.name refl c.block.ensures refl refl
    c.in_ok-push.ensures.items)

pub returns-else-is_some : goal.returns-else-is_some
returns-else-is_some c = result_none c.args.self.now c.args.around.now.innermost.block c.args.h.now (sym c.is_some.ensures ∙ c.if-is_some.false)
