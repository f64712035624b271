use Rattle.std.proofs.Common.{◌≡◌, ◌+◌, ◌-◌, ◌^◌, ◌<◌, min, drop}
use Rattle.algol_tree.specs.Counts as counts
use Rattle.algol_tree.specs.Image.{pairs}
use Rattle.algol_rules.proofs.count.pairs_tokens.Given as goal

abbrev pub invariant-pairs : goal.invariant-pairs
invariant-pairs l =
    (l.count < 2 ^ 64) × (min (l.count + counts.pairs_tokens (pairs (drop l.pair-index l.ps))) (2 ^ 64 - 1) ≡ min (counts.pairs_tokens (pairs l.fn.ps)) (2 ^ 64 - 1))
