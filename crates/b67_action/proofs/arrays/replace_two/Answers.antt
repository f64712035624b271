use Rattle.b67_action.proofs.ArraysOnRoom.{replaced_on}
use Rattle.b67_action.proofs.arrays.replace_two.Goals as goal

pub returns-clause-done : goal.returns-clause-done
returns-clause-done c = λ stacks rows there. replaced_on c.args.regs.now c.args.room.now c.requires.room c.args.word c.args.next c.requires.two stacks rows there
