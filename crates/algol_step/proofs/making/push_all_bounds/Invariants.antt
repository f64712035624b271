use Rattle.std.proofs.Common.{◌≡◌, ◌++◌, drop, map}
use Rattle.algol_meaning.specs.Arrays as arrays
use Rattle.algol_meaning.specs.SeenTree.{pairs}
use Rattle.algol_cells.specs.SeenValue.{value}
use Rattle.algol_cells.specs.SeenCell as seen
use Rattle.algol_step.proofs.making.push_all_bounds.Given as goal

abbrev pub invariant-pairing : goal.invariant-pairing
invariant-pairing l =
    map seen.bounds l.bounds.items ++ arrays.bounds_of (pairs (drop l.pair-index l.pairs)) (map value l.left)
    ≡ map seen.bounds l.initial.bounds.items ++ arrays.bounds_of (pairs l.pairs) (map value l.highs)
