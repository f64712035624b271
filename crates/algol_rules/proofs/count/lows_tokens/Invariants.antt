use Rattle.std.proofs.Common.{◌≡◌, ◌+◌, ◌-◌, ◌^◌, ◌<◌, min, drop}
use Rattle.algol_tree.specs.Counts as counts
use Rattle.algol_rules.proofs.count.lows_tokens.Given as goal

abbrev pub invariant-lows : goal.invariant-lows
invariant-lows l =
    (l.count < 2 ^ 64) × (min (l.count + counts.lows_tokens (drop l.low-index l.lows)) (2 ^ 64 - 1) ≡ min (counts.lows_tokens l.fn.lows) (2 ^ 64 - 1))
