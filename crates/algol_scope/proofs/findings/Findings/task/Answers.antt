use Rattle.algol_scope.proofs.Walking.{walks_task}
use Rattle.algol_scope.proofs.findings.Findings.task.Goals as goal

pub returns-in_ok-name-in-Some : goal.returns-in_ok-name-in-Some
returns-in_ok-name-in-Some c =
    walks_task c.args.around.now c.args.self.now c.name.new.self c.args.task.now _ c.in-Some.is c.in_ok-name-in-Some.ensures.walks
