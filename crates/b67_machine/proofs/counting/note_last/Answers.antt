use Rattle.b67_machine.proofs.Noting.{last_is}
use Rattle.b67_machine.proofs.counting.note_last.Goals as goal

pub returns-in-Some : goal.returns-in-Some
returns-in-Some c = last_is c.args.letters.now c.args.last.now c.in-Some.letter.now c.in-Some.ensures.value
