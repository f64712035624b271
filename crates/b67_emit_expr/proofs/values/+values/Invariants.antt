use Rattle.std.proofs.Common.{◌≡◌, ◌+◌, ◌*◌, ◌≤◌, drop}
use Rattle.algol_tree.specs.Image.{expr, exprs}
use Rattle.algol_tree.specs.Counts.{expr_tokens, exprs_tokens}
use Rattle.b67_segment.specs.Operators.{size}
use Rattle.b67_segment.specs.Building.{level_set}
use Rattle.b67_templates.specs.Paying.{inline_given}
use Rattle.b67_emitter.specs.Values.{meanings}
use Rattle.b67_emit_expr.proofs.Called.{LeftOf}
use Rattle.b67_emit_expr.proofs.Modes.{own_modes}
use Rattle.b67_emit_expr.proofs.values.+values.Given as goal

abbrev pub decreases-value_with_exits : goal.decreases-value_with_exits
decreases-value_with_exits l = 3 * expr_tokens (expr l.e.now)

abbrev pub decreases-operand : goal.decreases-operand
decreases-operand l = 3 * expr_tokens (expr l.e.now) + 1

abbrev pub decreases-applied : goal.decreases-applied
decreases-applied l = 3 * expr_tokens (expr l.e.now) + 2

abbrev pub decreases-calculated : goal.decreases-calculated
decreases-calculated l = 3 * (expr_tokens (expr l.a.now) + expr_tokens (expr l.b.now)) + 2

abbrev pub decreases-chosen : goal.decreases-chosen
decreases-chosen l = 3 * (expr_tokens (expr l.condition.now) + expr_tokens (expr l.x.now) + expr_tokens (expr l.y.now)) + 2

abbrev pub decreases-valued : goal.decreases-valued
decreases-valued l = 3 * expr_tokens (expr l.e.now) + 2

abbrev pub decreases-given : goal.decreases-given
decreases-given l = 3 * expr_tokens (expr l.e.now) + 3

abbrev pub decreases-filled : goal.decreases-filled
decreases-filled l = 3 * exprs_tokens (exprs l.c.now.actuals) + 1

abbrev pub decreases-called : goal.decreases-called
decreases-called l = 3 * exprs_tokens (exprs l.c.now.actuals) + 2

abbrev pub invariant-filled-actuals : goal.invariant-filled-actuals
invariant-filled-actuals l = record {
  level : l.out.level ≡ l.fn.out.level;
  exits : l.exits.items ≡ l.fn.exits.items;
  few : exprs_tokens (exprs (drop l.number l.actuals)) ≤ exprs_tokens (exprs l.actuals);
  short : size l.out.operators + inline_given (meanings l.names) (drop l.number (own_modes l.names l.c.name)) (exprs (drop l.number l.actuals))
      ≤ size l.fn.out.operators + inline_given (meanings l.names) (own_modes l.names l.c.name) (exprs l.actuals);
  code : LeftOf l.names (level_set l.fn.out) l.initial.out l.out (own_modes l.names l.c.name) l.number l.actuals (drop l.number l.actuals);
}

abbrev pub decreases-subscript : goal.decreases-subscript
decreases-subscript l = 3 * expr_tokens (expr l.e.now) + 2

abbrev pub decreases-subscripts : goal.decreases-subscripts
decreases-subscripts l = 3 * exprs_tokens (exprs l.v.now.subs) + 1

abbrev pub decreases-read : goal.decreases-read
decreases-read l = 3 * exprs_tokens (exprs l.v.now.subs) + 2
