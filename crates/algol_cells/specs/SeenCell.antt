-- What the cells of the code stand for.
use Rattle.std.specs.Prelude.{map}
use Rattle.b67_deeds.specs.Events.{EventState}
use Rattle.algol_meaning.specs.Value as value
use Rattle.algol_meaning.specs.SeenTree.{expr}
use Rattle.algol_cells.specs.SeenValue as seen
use Rattle.algol_cells.specs.declared.cell.Reference.{Reference}
use Rattle.algol_cells.specs.declared.cell.EventCell.{EventCell}
use Rattle.algol_cells.specs.declared.cell.Bounds.{Bounds}
use Rattle.algol_cells.specs.declared.cell.ArrayCell.{ArrayCell}
use Rattle.algol_cells.specs.declared.cell.Cell.{Cell}
use Rattle.algol_cells.specs.declared.cell.Cell.TheVariants as cells

abbrev pub reference : Reference → value.Reference
reference r = record { instance = r.instance; name = r.name.now }

abbrev pub event : EventCell → EventState
event e = record { happened = e.happened; available = e.available; waiters = e.waiters; procurers = e.procurers }

abbrev pub bounds : Bounds → value.Bounds
bounds b = record { low = b.low; high = b.high }

abbrev pub array : ArrayCell → value.ArrayCell
array a = record { bounds = map bounds a.bounds; elements = map seen.value a.elements }

abbrev pub cell : Cell → value.Cell
cell (cells.Simple v) = value.simple (seen.value v)
cell (cells.Event e) = value.event (event e)
cell (cells.Array a) = value.array (array a)
cell (cells.Named e i) = value.named (record { actual = expr e.now; instance = i })
cell (cells.Reference r) = value.reference (reference r)
