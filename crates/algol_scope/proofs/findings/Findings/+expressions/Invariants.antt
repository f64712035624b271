use Rattle.std.proofs.Common.{◌≤◌, drop, length}
use Rattle.algol_tree.specs.declared.tree.Expr.{size-Expr}
use Rattle.algol_tree.specs.Sites.{sites, inside_list}
use Rattle.algol_tree.specs.Image.{expr, exprs}
use Rattle.algol_scope.proofs.Walking.{Follows, Passing}
use Rattle.algol_scope.proofs.Waiting.{left_over, waiting_parts, Under}
use Rattle.algol_scope.proofs.findings.Findings.+expressions.Given as goal

abbrev pub invariant-list-expressions : goal.invariant-list-expressions
invariant-list-expressions l =
    Follows l.around l.seen l.fn.self l.self (inside_list (exprs l.fn.es)) (inside_list (exprs (drop l.e-index l.e-items)))

abbrev pub invariant-actuals-actuals : goal.invariant-actuals-actuals
invariant-actuals-actuals l = Passing l.around l.seen l.fn.self l.self l.modes (exprs l.fn.es) l.at (exprs (drop l.at l.e-items))

-- what is left is no deeper than the whole, and what waits is less deep
abbrev pub invariant-expr-parts : goal.invariant-expr-parts
invariant-expr-parts l =
    Follows l.around l.seen l.fn.self l.self (sites (expr l.fn.e)) (left_over l.at l.waiting.items) × (size-Expr l.at ≤ size-Expr l.fn.e) × Under l.fn.e l.waiting.items

abbrev pub invariant-expr-waiting : goal.invariant-expr-waiting
invariant-expr-waiting l = Follows l.around l.seen l.fn.self l.self (sites (expr l.fn.e)) (waiting_parts l.waiting.items) × Under l.fn.e l.waiting.items

abbrev pub decreases-expr-waiting : goal.decreases-expr-waiting
decreases-expr-waiting l = length l.waiting.items
