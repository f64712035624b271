use Rattle.std.proofs.Common.{◌≡◌, ℕ, ◌++◌, drop}
use Rattle.algol_frames.specs.Framing.{framed_cells_in, those_in}
use Rattle.algol_frames.proofs.limits.by_block.Given as goal

abbrev pub invariant-cells : goal.invariant-cells
invariant-cells l = (q : ℕ) → framed_cells_in l.table q ++ those_in (drop l.cell-index l.cells) q ≡ those_in l.fn.cells q
