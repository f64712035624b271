use Rattle.std.proofs.Common.{subst, ◌∙◌}
use Rattle.b67_segment.specs.declared.code.Code.{Code}
use Rattle.b67_machine.proofs.Loading.{none_in}
use Rattle.b67_exec.specs.Exec.{ExecRun}
use Rattle.b67_exec.proofs.Telling.{text_is, why_is}
use Rattle.b67_exec.proofs.report.exec_told.Goals as goal

pub load-requires-clause-stacks : goal.load-requires-clause-stacks
load-requires-clause-stacks c = none_in _ c.new.ensures.stacks

pub load-requires-clause-rows : goal.load-requires-clause-rows
load-requires-clause-rows c = none_in _ c.new.ensures.rows

pub returns : goal.returns
returns c =
    let m = c.exec.new.machine in
    let why = c.in_ok-why.why in
    let run = subst (λ (k : Code). ExecRun k c.args.budget m why) c.in_ok-machine.ensures.code c.in_ok-why.ensures.ran in
    record {
      text = c.in_ok-text.ensures ∙ text_is c.args.code c.args.budget m why run;
      why = why_is c.args.code c.args.budget m why run;
    }
