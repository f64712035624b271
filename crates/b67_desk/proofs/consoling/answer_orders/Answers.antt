use Rattle.algol_tree.specs.Image.{program as plain}
use Rattle.b67_desk.proofs.Commanding.{reported_is, consoled_is, performed_whole}
use Rattle.b67_desk.proofs.consoling.answer_orders.Goals as goal

pub console-requires-clause-whole : goal.console-requires-clause-whole
console-requires-clause-whole c =
    performed_whole (plain c.args.checked.now.program) c.args.given.now c.args.commands.now c.in_ok-code.code (rw c.in-Whole.is at c.in_ok-replay_all.ensures)

pub returns-in_ok-console-in-Whole : goal.returns-in_ok-console-in-Whole
returns-in_ok-console-in-Whole c =
    consoled_is (plain c.args.checked.now.program) c.args.given.now c.args.commands.now c.in_ok-code.code c.in_ok-console-in-Whole.field-0.items c.in_ok-code.ensures.faithful
    (rw c.in-Whole.is at c.in_ok-replay_all.ensures) c.in_ok-console-in-Whole.ensures

pub returns-in-Other : goal.returns-in-Other
returns-in-Other c =
    reported_is (plain c.args.checked.now.program) c.args.given.now c.args.commands.now c.in_ok-code.code c.in-Other.answer (rw c.in-Other.is at c.in_ok-replay_all.ensures)
