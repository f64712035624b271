use Rattle.b67_list.proofs.Answered.{on_ok}
use Rattle.algol_scope.proofs.Procedures.{declares_labels}
use Rattle.algol_scope.proofs.resolver.Resolver.labels.Goals as goal

pub returns : goal.returns
returns c = on_ok c.names.result (λ m later. declares_labels c.args.self.now c.names.new.self c.args.ns.now later m) c.names.ensures
