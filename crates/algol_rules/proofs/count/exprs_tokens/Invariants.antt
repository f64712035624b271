use Rattle.std.proofs.Common.{◌≡◌, ◌+◌, ◌-◌, ◌^◌, ◌<◌, min, drop}
use Rattle.algol_tree.specs.Counts as counts
use Rattle.algol_tree.specs.Image.{exprs}
use Rattle.algol_rules.proofs.count.exprs_tokens.Given as goal

abbrev pub invariant-expressions : goal.invariant-expressions
invariant-expressions l =
    (l.count < 2 ^ 64) × (min (l.count + counts.exprs_tokens (exprs (drop l.e-index l.es))) (2 ^ 64 - 1) ≡ min (counts.exprs_tokens (exprs l.fn.es)) (2 ^ 64 - 1))
