use Rattle.std.proofs.Common.{◌∙◌}
use Rattle.algol_tree.specs.Image.{exprs}
use Rattle.b67_list.proofs.Answered.{on_ok}
use Rattle.algol_scope.proofs.Processes.{walks_process}
use Rattle.algol_scope.proofs.findings.Findings.process.Goals as goal

pub returns : goal.returns
returns c =
    on_ok c.actuals.result
    (walks_process c.args.around.now c.args.self.now c.name.new.self c.task.new.self c.actuals.new.self c.args.c.now.name c.args.task.now c.modes.result.now
    (exprs c.args.c.now.actuals) c.in_ok-class.ensures.walks c.in_ok-task.ensures (λ a s. c.modes.ensures ∙ (c.in_ok-class.ensures.class a s).modes))
    c.actuals.ensures
