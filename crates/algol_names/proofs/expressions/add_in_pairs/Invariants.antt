use Rattle.std.proofs.Common.{◌≡◌, ◌++◌, drop, length}
use Rattle.algol_tree.specs.Image.{pairs}
use Rattle.algol_names.specs.Found.{in_pairs}
use Rattle.algol_names.proofs.expressions.add_in_pairs.Given as goal

abbrev pub invariant-pairs : goal.invariant-pairs
invariant-pairs l =
    l.names.items ++ in_pairs (pairs (drop l.pair-index l.bounds)) (length l.outer) ≡ l.fn.names.items ++ in_pairs (pairs l.fn.bounds) (length l.outer)
