use Rattle.std.proofs.Common.{◌≤◌}
use Rattle.algol_tree.specs.declared.tree.Expr.{size-Expr}
use Rattle.algol_tree.proofs.tree.+expressions.Given as goal

-- what is left is no deeper than the whole
abbrev pub invariant-Expr::drop-operands : goal.invariant-Expr::drop-operands
invariant-Expr::drop-operands l = size-Expr l.self ≤ size-Expr l.fn.self
