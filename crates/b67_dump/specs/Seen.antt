-- What the parts of the code stand for.
use Rattle.std.specs.Prelude.{Option, Some, None}
use Rattle.std.specs.Borrow.{Bor}
use Rattle.algol_meaning.specs.Value as plain
use Rattle.algol_cells.specs.SeenCell as seen
use Rattle.algol_cells.specs.declared.cell.Cell.{Cell}

abbrev pub cell_found : Option (Bor Cell) → Option plain.Cell
cell_found None = None
cell_found (Some c) = Some (seen.cell c.now)
