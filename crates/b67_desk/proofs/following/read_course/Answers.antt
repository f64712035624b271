use Rattle.std.proofs.Common.{ap, refl, Some, None}
use Rattle.std.specs.Prelude.{option_copied}
use Rattle.b67_desk.proofs.Followed.{told_beside, bad_beside}
use Rattle.b67_desk.proofs.following.read_course.Goals as goal

pub returns-in_default : goal.returns-in_default
returns-in_default c =
    bad_beside (option_copied c.args.schedule) None c.args.input c.args.input c.in_ok-refuse_schedule.field-0 (ap option_copied c.in_default.is) refl
    c.in_ok-refuse_schedule.ensures

pub returns-in-Ok : goal.returns-in-Ok
returns-in-Ok c =
    told_beside (option_copied c.args.schedule) c.in-Some.text.now c.args.input c.in-Ok.given (ap option_copied c.in-Some.is) c.in-Ok.ensures.read

pub returns-in_ok-refuse_schedule-in-Err-Bad : goal.returns-in_ok-refuse_schedule-in-Err-Bad
returns-in_ok-refuse_schedule-in-Err-Bad c =
    bad_beside (option_copied c.args.schedule) (Some c.in-Some.text.now) c.args.input c.in-Err-Bad.bad.byte c.in_ok-refuse_schedule-in-Err-Bad.field-0
    (ap option_copied c.in-Some.is) (rw c.in-Err-Bad.field-0-is at c.in-Err-Bad.ensures.refused) c.in_ok-refuse_schedule-in-Err-Bad.ensures
