use Rattle.std.proofs.Common.{◌≡◌, drop, map}
use Rattle.algol_meaning.specs.Arrays as arrays
use Rattle.algol_cells.specs.SeenCell as seen
use Rattle.algol_instances.proofs.size.some_empty.Given as goal

abbrev pub invariant-asking : goal.invariant-asking
invariant-asking l = arrays.some_empty (map seen.bounds (drop l.b-index l.bounds)) ≡ arrays.some_empty (map seen.bounds l.bounds)
