use Rattle.std.proofs.Common.{sym}
use Rattle.std.proofs.lemmas.Fmt.{decimal_digit}
use Rattle.b67_schedule.proofs.Writing.{on_ok}
use Rattle.b67_schedule.proofs.push_short_line.Goals as goal

pub returns : goal.returns
returns c = rw (decimal_digit c.args.process c.requires, sym c.byte.ensures) (on_ok c.extend_from_slice.result _ _ _ c.extend_from_slice.ensures.items)
