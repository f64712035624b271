use Rattle.std.proofs.Common.{◌≡◌, ◌++◌, drop, map}
use Rattle.algol_cells.specs.SeenCell as cells
use Rattle.algol_rest_expr.specs.SeenExpression as seen
use Rattle.algol_effect.specs.Effects.{given_cells_in}
use Rattle.algol_step.proofs.calling.given_cells.Given as goal

abbrev pub invariant-giving : goal.invariant-giving
invariant-giving l =
    map cells.cell l.cells.items ++ given_cells_in l.world l.process l.part (seen.all_done (drop l.given-index l.givens))
    ≡ given_cells_in l.world l.process l.part (seen.all_done l.givens)
