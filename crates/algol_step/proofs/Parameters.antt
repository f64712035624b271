-- Laws of the cells of parameters.
use Rattle.std.proofs.Common.{◌≡◌, refl, List, [], ◌∷◌, ◌++◌, map, ap}
use Rattle.algol_cells.specs.SeenCell as seen
use Rattle.algol_cells.specs.declared.cell.Cell.{Cell}

pub cells_append : (cs : List Cell) (c : Cell) → map seen.cell (cs ++ c ∷ []) ≡ map seen.cell cs ++ seen.cell c ∷ []
cells_append [] c = refl
cells_append (d ∷ cs) c = ap (λ (x : _). seen.cell d ∷ x) (cells_append cs c)

pub ruleset giving = cells_append
