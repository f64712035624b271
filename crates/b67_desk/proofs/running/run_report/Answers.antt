use Rattle.std.specs.Prelude.{IfOk}
use Rattle.std.proofs.Common.{ℕ, subst, ◌∙◌}
use Rattle.b67_segment.specs.declared.code.Code.{Code}
use Rattle.b67_ready.specs.declared.order.Order.{Order}
use Rattle.b67_ready.specs.Orders.{order_place_of}
use Rattle.b67_stands.specs.Ran.{HasRunAlone}
use Rattle.b67_explain.specs.Telling.{AreOfFirst}
use Rattle.b67_machine.proofs.Loading.{none_in}
use Rattle.b67_desk.specs.Calls.{ReportIsLeft}
use Rattle.b67_desk.proofs.Told.{segments_short, kept_short, alone_can_be_told, run_reported}
use Rattle.b67_desk.proofs.running.run_report.Goals as goal

pub load-requires-clause-stacks : goal.load-requires-clause-stacks
load-requires-clause-stacks c = none_in _ c.new.ensures.stacks

pub load-requires-clause-rows : goal.load-requires-clause-rows
load-requires-clause-rows c = none_in _ c.new.ensures.rows

pub load-requires-clause-segments : goal.load-requires-clause-segments
load-requires-clause-segments c = segments_short c.args.job.code c.requires.faithful.1.listable

pub run_by_caller-requires : goal.run_by_caller-requires
run_by_caller-requires c = record {
  fresh = c.in_ok-machine.ensures.fresh c.new.ensures.stacks c.new.ensures.rows;
  sound = (kept_short c.args.job.code c.in_ok-machine.machine.code c.requires.faithful.0 c.requires.faithful.1 c.in_ok-machine.ensures.code).0;
  segments = (kept_short c.args.job.code c.in_ok-machine.machine.code c.requires.faithful.0 c.requires.faithful.1 c.in_ok-machine.ensures.code).1;
  budget = c.requires.budget;
}

pub left_report-requires : goal.left_report-requires
left_report-requires c =
    let ran = c.in_ok-ran.ran in
    record {
      all = c.in_ok-acts.ensures.acts.sum_is ∙ c.len.ensures;
      numbers = c.in_ok-acts.ensures.numbers;
      told = λ some.
          alone_can_be_told c.args.job.code c.in_ok-machine.machine.code c.requires.faithful.0 c.requires.faithful.1 c.args.job.budget (order_place_of c.order_of.result)
          ran.machine ran.schedule ran.answer some c.in_ok-machine.ensures.code c.in_ok-ran.ensures;
    }

pub returns : goal.returns
returns c =
    let ran = c.in_ok-ran.ran in
    let job = c.args.job in
    run_reported job ran.machine ran.answer ran.schedule
    (subst (λ (o : Order). HasRunAlone job.code job.budget (order_place_of o) ran.machine ran.schedule ran.answer) c.order_of.ensures
    (subst (λ (k : Code). HasRunAlone k job.budget (order_place_of c.order_of.result) ran.machine ran.schedule ran.answer) c.in_ok-machine.ensures.code c.in_ok-ran.ensures))
    c.in_ok-acts.acts (subst (λ (n : ℕ). AreOfFirst job.processors n c.in_ok-acts.acts) c.len.ensures c.in_ok-acts.ensures.first) c.in_ok-lines.lines c.left_report.result
    (subst (λ (n : ℕ). IfOk c.left_report.result (ReportIsLeft ran.machine ran.answer c.in_ok-lines.lines n ran.schedule)) c.in_ok-acts.ensures.acts.each c.left_report.ensures.left)
    c.left_report.ensures.acts c.in_ok-lines.ensures
