use Rattle.std.proofs.Common.{◌≡◌, ◌++◌, drop}
use Rattle.algol_tree.specs.Image.{pairs}
use Rattle.algol_paths.specs.Arrays.{lows_of}
use Rattle.algol_lows.proofs.bounds.own_lows.Given as goal

abbrev pub invariant-pairs : goal.invariant-pairs
invariant-pairs l = l.list.items ++ lows_of (pairs (drop l.pair-index l.pairs)) ≡ lows_of (pairs l.pairs)
