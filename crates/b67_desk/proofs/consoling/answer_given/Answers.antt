use Rattle.std.specs.Prelude.{option_copied}
use Rattle.algol_tree.specs.Image.{program as plain}
use Rattle.b67_desk.specs.Consoling.{Consoled}
use Rattle.b67_desk.proofs.Commanding.{orders_answered, bad_answered}
use Rattle.b67_desk.proofs.consoling.answer_given.Goals as goal

pub returns-in-Told : goal.returns-in-Told
returns-in-Told c =
    orders_answered (option_copied c.args.text) (Consoled (plain c.args.checked.now.program) c.args.given.now) c.in-Told.commands c.answer_orders.result
    (rw c.in-Told.is at c.in_ok-commands.ensures) c.answer_orders.ensures

pub returns-in-Bad : goal.returns-in-Bad
returns-in-Bad c =
    bad_answered (option_copied c.args.text) (Consoled (plain c.args.checked.now.program) c.args.given.now) c.in-Bad.answer (rw c.in-Bad.is at c.in_ok-commands.ensures)
