use Rattle.std.specs.Prelude.{length}
use Rattle.std.proofs.Common.{subst}
use Rattle.b67_schedule.specs.Schedules.{IsSchedule, ScheduleModel}
use Rattle.b67_desk.proofs.Told.{left_is}
use Rattle.b67_desk.proofs.running.left_report.Goals as goal

pub report_of-requires-clause-told : goal.report_of-requires-clause-told
report_of-requires-clause-told c = c.requires.told c.in_default.not-NoMemory

pub returns-clause-left : goal.returns-clause-left
returns-clause-left c =
    let ran = c.args.ran in
    left_is ran.machine ran.answer c.args.lines (length c.args.acts) ran.schedule c.report_of.result c.in_default.not-NoMemory
    (subst (λ (s : ScheduleModel). IsSchedule s.runs s.letters) c.schedule.view_is c.schedule.invariant) c.report_of.ensures.report
