use Rattle.b67_list.proofs.Answered.{on_ok}
use Rattle.algol_scope.proofs.Procedures.{declares_tasks}
use Rattle.algol_scope.proofs.resolver.Resolver.tasks.Goals as goal

pub returns : goal.returns
returns c = on_ok c.cells.result (λ m later. declares_tasks c.args.self.now c.cells.new.self c.args.ns.now later m) c.cells.ensures
