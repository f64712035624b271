use Rattle.std.proofs.Common.{ap, refl, Some, None}
use Rattle.std.specs.Prelude.{option_copied}
use Rattle.b67_desk.proofs.Commanding.{told_orders, bad_orders}
use Rattle.b67_desk.proofs.consoling.read_orders.Goals as goal

pub returns-in_default : goal.returns-in_default
returns-in_default c =
    bad_orders (option_copied c.args.text) None 1 c.in_ok-refuse_line.field-0 (ap option_copied c.in_default.is) refl c.in_ok-refuse_line.ensures

pub returns-in-Ok : goal.returns-in-Ok
returns-in-Ok c = told_orders (option_copied c.args.text) c.in-Some.bytes.now c.in-Ok.commands (ap option_copied c.in-Some.is) c.in-Ok.ensures.read

pub returns-in_ok-refuse_line-in-Err-BadLine : goal.returns-in_ok-refuse_line-in-Err-BadLine
returns-in_ok-refuse_line-in-Err-BadLine c =
    bad_orders (option_copied c.args.text) (Some c.in-Some.bytes.now) c.in-Err-BadLine.line c.in_ok-refuse_line-in-Err-BadLine.field-0
    (ap option_copied c.in-Some.is) (rw c.in-Err-BadLine.field-0-is at c.in-Err-BadLine.ensures.refused) c.in_ok-refuse_line-in-Err-BadLine.ensures
