use Rattle.std.specs.Prelude.{option_copied}
use Rattle.algol_tree.specs.Image.{program as plain}
use Rattle.b67_desk.specs.Showing.{Dumped}
use Rattle.b67_desk.proofs.Followed.{told_answered, bad_answered}
use Rattle.b67_desk.proofs.following.answer_dump.Goals as goal

pub returns-in-Told : goal.returns-in-Told
returns-in-Told c =
    told_answered (option_copied c.args.schedule) c.args.input (Dumped c.args.entries (plain c.args.checked.now.program)) c.in-Told.given c.show_after.result
    (rw c.in-Told.is at c.in_ok-given.ensures) c.show_after.ensures

pub returns-in-Bad : goal.returns-in-Bad
returns-in-Bad c =
    bad_answered (option_copied c.args.schedule) c.args.input (Dumped c.args.entries (plain c.args.checked.now.program)) c.in-Bad.answer (rw c.in-Bad.is at c.in_ok-given.ensures)
