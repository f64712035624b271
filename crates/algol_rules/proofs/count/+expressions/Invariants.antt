use Rattle.std.proofs.Common.{◌≡◌, ◌+◌, ◌-◌, ◌^◌, ◌<◌, ◌≤◌, min, drop}
use Rattle.algol_tree.specs.declared.tree.Expr.{size-Expr}
use Rattle.algol_tree.specs.Counts as counts
use Rattle.algol_tree.specs.Image.{expr, variable, call, exprs}
use Rattle.algol_rules.proofs.count.+expressions.Given as goal

abbrev pub invariant-call_tokens-actuals : goal.invariant-call_tokens-actuals
invariant-call_tokens-actuals l =
    (l.count < 2 ^ 64) × (min (l.count + counts.exprs_tokens (exprs (drop l.e-index l.e-items))) (2 ^ 64 - 1) ≡ min (counts.call_tokens (call l.fn.c)) (2 ^ 64 - 1))

abbrev pub invariant-variable_tokens-subscripts : goal.invariant-variable_tokens-subscripts
invariant-variable_tokens-subscripts l =
    (l.count < 2 ^ 64) × (min (l.count + counts.exprs_tokens (exprs (drop l.e-index l.e-items))) (2 ^ 64 - 1) ≡ min (counts.variable_tokens (variable l.fn.v)) (2 ^ 64 - 1))

-- what is left is no deeper than the whole
abbrev pub invariant-expr_tokens-parts : goal.invariant-expr_tokens-parts
invariant-expr_tokens-parts l =
    (l.count < 2 ^ 64) × (min (l.count + counts.expr_tokens (expr l.at)) (2 ^ 64 - 1) ≡ min (counts.expr_tokens (expr l.fn.e)) (2 ^ 64 - 1))
    × (size-Expr l.at ≤ size-Expr l.fn.e)
