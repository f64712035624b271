use Rattle.std.proofs.Common.{◌≡◌, [], drop}
use Rattle.algol_tree.specs.Cells as cells
use Rattle.algol_tree.specs.Cells.{cells_for}
use Rattle.algol_scope.specs.Noting.{content_of}
use Rattle.algol_scope.proofs.Names.{Adding}
use Rattle.algol_scope.proofs.findings.Findings.cells_at.Given as goal

abbrev pub invariant-names : goal.invariant-names
invariant-names l =
    (held : cells.Content) → content_of held ≡ l.content →
    Adding l.fn.self l.self (cells_for l.around.innermost.block held l.fn.ns) (cells_for l.around.innermost.block held (drop l.n-index l.ns)) [] []
