use Rattle.std.specs.Prelude.{IfOk, sum}
use Rattle.std.proofs.Common.{◌≡◌, ◌≤◌, ℕ, List, length, sym, ap, subst, ◌∙◌, arith}
use Rattle.b67_segment.specs.declared.code.Code.{Code}
use Rattle.b67_report.specs.Reading.{ReportCounts}
use Rattle.b67_ready.specs.declared.order.Order.{Order}
use Rattle.b67_ready.specs.Orders.{order_place_of}
use Rattle.b67_stands.specs.Ran.{HasRunShared}
use Rattle.b67_machine.proofs.Loading.{none_in}
use Rattle.b67_desk.specs.Calls.{ReportIsLeft}
use Rattle.b67_desk.proofs.Told.{segments_short, kept_short, ran_can_be_told, share_reported}
use Rattle.b67_desk.proofs.running.share_report.Goals as goal

pub load-requires-clause-stacks : goal.load-requires-clause-stacks
load-requires-clause-stacks g c = none_in _ c.new.ensures.stacks

pub load-requires-clause-rows : goal.load-requires-clause-rows
load-requires-clause-rows g c = none_in _ c.new.ensures.rows

pub load-requires-clause-segments : goal.load-requires-clause-segments
load-requires-clause-segments g c = segments_short c.args.job.code c.requires.faithful.1.listable

pub run_by_processors-requires-clause-sound : goal.run_by_processors-requires-clause-sound
run_by_processors-requires-clause-sound g c = λ a b.
    (kept_short c.args.job.code c.in_ok-machine.machine.code c.requires.faithful.0 c.requires.faithful.1 c.in_ok-machine.ensures.code).0

pub run_by_processors-requires-clause-segments : goal.run_by_processors-requires-clause-segments
run_by_processors-requires-clause-segments g c = λ a b.
    (kept_short c.args.job.code c.in_ok-machine.machine.code c.requires.faithful.0 c.requires.faithful.1 c.in_ok-machine.ensures.code).1

pub left_report-requires : goal.left_report-requires
left_report-requires g c =
    let ran = c.in_ok-ran.ran in
    let most : c.args.job.processors ≤ 8 = c.requires.processors.1 in
    record {
      all = ap sum c.of.ensures ∙ c.in_ok-ran.ensures.all;
      numbers =
          subst ReportCounts (sym c.of.ensures)
          (record { each = c.in_ok-ran.ensures.numbers; few = omega (arith, c.in_ok-ran.ensures.each, most) });
      told = λ some.
          ran_can_be_told c.args.job.code c.in_ok-machine.machine.code c.requires.faithful.0 c.requires.faithful.1 c.args.job.budget
          ran.machine ran.schedule ran.answer some c.in_ok-machine.ensures.code c.in_ok-ran.ensures.ran.has_run;
    }

pub returns : goal.returns
returns g c =
    let ran = c.in_ok-ran.ran in
    let job = c.args.job in
    share_reported job ran.machine ran.answer ran.schedule c.run_by_processors.new.counts.items
    (subst (λ (o : Order). HasRunShared job.code job.budget (order_place_of o) job.processors ran.machine ran.schedule ran.answer c.run_by_processors.new.counts.items) c.order_of.ensures
    (subst (λ (k : Code). HasRunShared k job.budget (order_place_of c.order_of.result) job.processors ran.machine ran.schedule ran.answer c.run_by_processors.new.counts.items)
    c.in_ok-machine.ensures.code c.in_ok-ran.ensures.ran))
    c.in_ok-lines.lines c.left_report.result
    (subst (λ (n : ℕ). IfOk c.left_report.result (ReportIsLeft ran.machine ran.answer c.in_ok-lines.lines n ran.schedule)) (ap length c.of.ensures ∙ c.in_ok-ran.ensures.each)
    c.left_report.ensures.left)
    (subst (λ (acts : List ℕ). IfOk c.left_report.result (λ report. report.acts ≡ acts)) c.of.ensures c.left_report.ensures.acts) c.in_ok-lines.ensures
