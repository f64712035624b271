use Rattle.std.proofs.Common.{◌≡◌, ◌++◌, drop, map}
use Rattle.algol_cells.specs.SeenCell as seen
use Rattle.b67_dump.specs.Cells.{further_bounds}
use Rattle.b67_dump.proofs.parts.push_further_bounds.Given as goal

abbrev pub invariant-bounds : goal.invariant-bounds
invariant-bounds l = l.text.items ++ further_bounds (map seen.bounds (drop l.b-index l.bounds)) ≡ l.initial.text.items ++ further_bounds (map seen.bounds l.bounds)
