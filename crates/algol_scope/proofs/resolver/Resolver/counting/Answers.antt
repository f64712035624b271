use Rattle.algol_tree.specs.Image.{expr}
use Rattle.b67_list.proofs.Answered.{on_ok}
use Rattle.algol_scope.proofs.Statements.{visits_counting}
use Rattle.algol_scope.proofs.resolver.Resolver.counting.Goals as goal

pub returns : goal.returns
returns c =
    on_ok c.expr-3.result
    (λ z s listed.
    visits_counting c.args.self.now c.name.new.self c.expr.new.self c.expr-2.new.self c.expr-3.new.self c.args.v.now (expr c.args.first.now)
    (expr c.args.step.now) (expr c.args.last.now) s listed c.in_ok-name.ensures c.in_ok-expr.ensures c.in_ok-expr-2.ensures z)
    c.expr-3.ensures
