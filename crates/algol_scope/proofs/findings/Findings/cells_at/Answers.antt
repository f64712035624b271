use Rattle.std.proofs.Common.{drop, refl}
use Rattle.std.proofs.lemmas.List.{drop_all}
use Rattle.algol_tree.specs.Cells.{cells_for}
use Rattle.algol_scope.proofs.Names.{cell_at, cells_item, cells_end}
use Rattle.algol_scope.proofs.findings.Findings.cells_at.Goals as goal

pub names-preserved : goal.names-preserved
names-preserved c =
    λ held told.
    cells_item c.args.self.now c.names.self _ c.args.around.now.innermost.block held (cells_for c.args.around.now.innermost.block held c.args.ns.now)
    c.args.ns.now c.names.n-index c.n-item.result c.names-test.true c.n-item.is
    (cell_at c.names.self _ c.args.around.now.innermost.block c.block.result held c.args.content c.n-item.result told c.block.ensures refl refl
    c.in_ok-push.ensures.items)
    (c.names.invariant held told)

pub returns : goal.returns
returns c =
    λ held told.
    cells_end c.args.self.now c.names.self c.args.around.now.innermost.block held (cells_for c.args.around.now.innermost.block held c.args.ns.now)
    (drop c.names.n-index c.args.ns.now) (drop_all c.names.n-index c.args.ns.now c.names-test.false) (c.names.invariant held told)
