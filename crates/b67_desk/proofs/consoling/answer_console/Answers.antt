use Rattle.std.specs.Prelude.{ℕ, List, Option, option_copied}
use Rattle.algol_tree.specs.Image.{program as plain}
use Rattle.b67_schedule.specs.declared.reading.Given.{Given}
use Rattle.b67_desk.specs.Answers.{OrBadSchedule}
use Rattle.b67_desk.specs.Consoling.{OrBadConsole, Consoled}
use Rattle.b67_desk.proofs.Commanding.{two_answered, two_is}
use Rattle.b67_desk.proofs.Followed.{told_answered, bad_answered, has_runs}
use Rattle.b67_desk.proofs.consoling.answer_console.Goals as goal

pub returns-in-Told : goal.returns-in-Told
returns-in-Told c =
    let tree = plain c.args.checked.now.program in
    let schedule = option_copied c.apart.result.0 in
    let commands = option_copied c.apart.result.1 in
    two_answered (option_copied c.args.beside) schedule commands
    (λ (s o : Option (List ℕ)). OrBadSchedule s c.args.input (λ (g : Given). OrBadConsole o (Consoled tree g))) c.answer_given.result c.apart.ensures
    (told_answered schedule c.args.input (λ (g : Given). OrBadConsole commands (Consoled tree g)) c.in-Told.given c.answer_given.result
    (rw c.in-Told.is at c.in_ok-given.ensures) c.answer_given.ensures)

pub returns-in-Bad : goal.returns-in-Bad
returns-in-Bad c =
    let tree = plain c.args.checked.now.program in
    let schedule = option_copied c.apart.result.0 in
    let commands = option_copied c.apart.result.1 in
    two_is (option_copied c.args.beside) schedule commands
    (λ (s o : Option (List ℕ)). OrBadSchedule s c.args.input (λ (g : Given). OrBadConsole o (Consoled tree g))) c.in-Bad.answer c.apart.ensures
    (bad_answered schedule c.args.input (λ (g : Given). OrBadConsole commands (Consoled tree g)) c.in-Bad.answer
    (rw c.in-Bad.is at c.in_ok-given.ensures))

pub answer_given-requires : goal.answer_given-requires
answer_given-requires c = has_runs (option_copied c.apart.result.0) c.in-Told.given (rw c.in-Told.is at c.in_ok-given.ensures)
