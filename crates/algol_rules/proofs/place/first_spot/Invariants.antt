use Rattle.std.proofs.Common.{◌≡◌}
use Rattle.algol_tree.specs.Cells as cells
use Rattle.algol_tree.specs.Image.{expr}
use Rattle.algol_rules.proofs.place.first_spot.Given as goal

abbrev pub invariant-operands : goal.invariant-operands
invariant-operands l = cells.first_spot (expr l.at) ≡ cells.first_spot (expr l.fn.e)
