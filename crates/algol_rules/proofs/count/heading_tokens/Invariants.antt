use Rattle.std.proofs.Common.{◌≡◌, ◌+◌, ◌-◌, ◌^◌, ◌<◌, min, drop}
use Rattle.algol_tree.specs.Counts as counts
use Rattle.algol_rules.proofs.count.heading_tokens.Given as goal

abbrev pub invariant-specs : goal.invariant-specs
invariant-specs l =
    (l.count < 2 ^ 64) × (min (l.count + counts.specs_tokens (drop l.spec-index l.spec-items)) (2 ^ 64 - 1) ≡ min (counts.heading_tokens l.fn.h) (2 ^ 64 - 1))
