use Rattle.std.specs.Prelude.{IfOk}
use Rattle.std.proofs.Common.{ℕ, subst, ◌∙◌, arith}
use Rattle.b67_schedule.specs.Giving.{given_entries}
use Rattle.b67_schedule.specs.Schedules.{entries}
use Rattle.b67_segment.specs.declared.code.Code.{Code}
use Rattle.b67_machine.specs.Replaying.{Replays}
use Rattle.b67_machine.proofs.Loading.{none_in}
use Rattle.b67_desk.specs.Calls.{ReportIsLeft}
use Rattle.b67_explain.proofs.Explained.{can_be_told}
use Rattle.b67_desk.proofs.Told.{segments_short, replay_answered}
use Rattle.b67_desk.proofs.Wholes.{whole_is_performed}
use Rattle.b67_desk.proofs.running.replay_report.Goals as goal

pub load-requires-clause-stacks : goal.load-requires-clause-stacks
load-requires-clause-stacks c = none_in _ c.new.ensures.stacks

pub load-requires-clause-rows : goal.load-requires-clause-rows
load-requires-clause-rows c = none_in _ c.new.ensures.rows

pub load-requires-clause-segments : goal.load-requires-clause-segments
load-requires-clause-segments c = segments_short c.args.code c.requires.faithful.1.listable

pub returns-clause-explained : goal.returns-clause-explained
returns-clause-explained c =
    let done = c.replay-answer.new.done in
    let m = c.replay-answer.new.self in
    replay_answered c.args.code c.args.given.now c.args.budget m c.replay-answer.result done
    (subst (λ (k : Code). Replays k c.args.given.now c.args.budget done m c.replay-answer.result) c.in_ok-machine.ensures.code c.replay-answer.ensures.replays)
    c.in_ok-lines.lines c.left_report.result
    (subst (λ (n : ℕ). IfOk c.left_report.result (ReportIsLeft m c.replay-answer.result c.in_ok-lines.lines n done)) c.in_ok-acts.ensures.acts.each c.left_report.ensures.left)
    c.in_ok-lines.ensures

pub returns-clause-whole : goal.returns-clause-whole
returns-clause-whole c =
    let done = c.replay-answer.new.done in
    let m = c.replay-answer.new.self in
    whole_is_performed c.args.code c.args.given.now c.args.budget m c.replay-answer.result done
    (subst (λ (k : Code). Replays k c.args.given.now c.args.budget done m c.replay-answer.result) c.in_ok-machine.ensures.code c.replay-answer.ensures.replays)
    c.requires.most c.in_ok-lines.lines c.left_report.result
    (subst (λ (n : ℕ). IfOk c.left_report.result (ReportIsLeft m c.replay-answer.result c.in_ok-lines.lines n done)) c.in_ok-acts.ensures.acts.each c.left_report.ensures.left)
    c.in_ok-lines.ensures

pub replay-answer-requires-clause-room : goal.replay-answer-requires-clause-room
replay-answer-requires-clause-room c = grind (arith, c.min-entries.ensures, c.in_ok-done.ensures.room, c.len.ensures)

pub left_report-requires : goal.left_report-requires
left_report-requires c = record {
  all = c.in_ok-acts.ensures.acts.sum_is ∙ c.len-2.ensures;
  numbers = c.in_ok-acts.ensures.numbers;
  told = λ some.
      can_be_told c.in_ok-machine.machine.code (given_entries c.args.given.now) c.args.budget (entries c.replay-answer.new.done.runs) c.replay-answer.new.done.letters
      c.replay-answer.new.self c.replay-answer.result c.replay-answer.ensures.replays.0 some;
}
