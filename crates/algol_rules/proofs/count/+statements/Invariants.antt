use Rattle.std.proofs.Common.{◌≡◌, ◌+◌, ◌-◌, ◌^◌, ◌<◌, min, drop}
use Rattle.algol_tree.specs.Counts as counts
use Rattle.algol_tree.specs.Image.{stmts}
use Rattle.algol_rules.proofs.count.+statements.Given as goal

abbrev pub invariant-stmts_tokens-statements : goal.invariant-stmts_tokens-statements
invariant-stmts_tokens-statements l =
    (l.count < 2 ^ 64) × (min (l.count + counts.stmts_tokens (stmts (drop l.s-index l.ss))) (2 ^ 64 - 1) ≡ min (counts.stmts_tokens (stmts l.fn.ss)) (2 ^ 64 - 1))
