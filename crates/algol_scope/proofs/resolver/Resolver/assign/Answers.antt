use Rattle.b67_list.proofs.Answered.{on_ok}
use Rattle.algol_scope.proofs.Statements.{visits_assign}
use Rattle.algol_scope.proofs.resolver.Resolver.assign.Goals as goal

pub returns : goal.returns
returns c =
    on_ok c.expr.result
    (λ z listed.
    visits_assign c.args.self.now c.name.new.self c.list.new.self c.expr.new.self c.args.v.now c.args.e.now listed c.in_ok-name.ensures
    c.in_ok-list.ensures z)
    c.expr.ensures
