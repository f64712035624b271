use Rattle.algol_tree.specs.Image.{exprs}
use Rattle.b67_list.proofs.Answered.{on_ok}
use Rattle.algol_scope.proofs.Statements.{visits_write}
use Rattle.algol_scope.proofs.resolver.Resolver.write.Goals as goal

pub returns : goal.returns
returns c =
    on_ok c.list.result
    (λ y spot ps listed.
    visits_write c.args.self.now c.name.new.self c.list.new.self c.args.file.now (exprs c.args.items.now) listed spot ps c.in_ok-name.ensures y)
    c.list.ensures
