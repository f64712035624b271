use Rattle.std.proofs.Common.{◌++◌, ◌∙◌, ap, sym, append-nil}
use Rattle.std.proofs.lemmas.List.{drop_all}
use Rattle.algol_frames.specs.Framing.{framed_cells_in, those_in}
use Rattle.algol_frames.proofs.limits.by_block.Goals as goal

pub returns : goal.returns
returns c =
    λ q.
    sym (append-nil (framed_cells_in c.cells.table q))
    ∙ ap (λ z. framed_cells_in c.cells.table q ++ those_in z q) (sym (drop_all c.cells.cell-index c.args.cells.now c.cells-test.false))
    ∙ c.cells.invariant q
