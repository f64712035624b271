use Rattle.std.proofs.Common.{◌≡◌, ◌++◌, drop, map}
use Rattle.algol_cells.specs.SeenCell as seen
use Rattle.algol_cells.specs.SeenValue.{value}
use Rattle.b67_dump.specs.Cells.{element_lines}
use Rattle.b67_dump.proofs.cells.push_elements.Given as goal

abbrev pub invariant-elements : goal.invariant-elements
invariant-elements l = record {
  lines : l.lines.items ++ element_lines l.name (map seen.bounds l.array.bounds) l.number (map value (drop l.v-index l.array.elements))
      ≡ l.initial.lines.items ++ element_lines l.name (map seen.bounds l.array.bounds) 0 (map value l.array.elements);
  at : l.number ≡ l.v-index;
}
