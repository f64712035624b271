use Rattle.std.proofs.Common.{ap, refl, Some, None}
use Rattle.std.specs.Prelude.{option_copied}
use Rattle.b67_desk.proofs.Judged.{told_beside, bad_beside}
use Rattle.b67_desk.proofs.judging.read_beside.Goals as goal

pub returns-in_default : goal.returns-in_default
returns-in_default c =
    bad_beside (option_copied c.args.text) None c.args.input c.args.input c.in_ok-refuse_report.field-0 (ap option_copied c.in_default.is) refl
    c.in_ok-refuse_report.ensures

pub returns-in-Ok : goal.returns-in-Ok
returns-in-Ok c =
    told_beside (option_copied c.args.text) c.in-Some.text.now c.args.input c.in-Ok.report (ap option_copied c.in-Some.is) c.requires c.in-Ok.ensures.read

pub returns-in_ok-refuse_report-in-Err-BadReport : goal.returns-in_ok-refuse_report-in-Err-BadReport
returns-in_ok-refuse_report-in-Err-BadReport c =
    bad_beside (option_copied c.args.text) (Some c.in-Some.text.now) c.args.input c.in-Err-BadReport.byte c.in_ok-refuse_report-in-Err-BadReport.field-0
    (ap option_copied c.in-Some.is) (rw c.in-Err-BadReport.field-0-is at c.in-Err-BadReport.ensures.refused) c.in_ok-refuse_report-in-Err-BadReport.ensures
