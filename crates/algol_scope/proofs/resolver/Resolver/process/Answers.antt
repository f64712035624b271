use Rattle.algol_tree.specs.Image.{exprs}
use Rattle.b67_list.proofs.Answered.{on_ok}
use Rattle.algol_scope.specs.Noting.{process_parts}
use Rattle.algol_scope.proofs.Statements.{visits_process}
use Rattle.std.proofs.Common.{refl}
use Rattle.algol_scope.proofs.Visiting.{visits_walk}
use Rattle.algol_scope.proofs.resolver.Resolver.process.Goals as goal

pub returns : goal.returns
returns c =
    on_ok c.process.result
    (λ w listed.
    visits_process c.args.self.now _ c.args.c.now c.args.task.now listed (visits_walk c.args.self.now _ (process_parts c.args.c.now.name c.args.task.now (exprs c.args.c.now.actuals)) w refl refl))
    c.process.ensures
