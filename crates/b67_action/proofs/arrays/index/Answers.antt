use Rattle.std.proofs.Common.{subst}
use Rattle.b67_word.specs.Word.{Word}
use Rattle.b67_table.specs.Moves.{replaced}
use Rattle.b67_table.specs.Program.{answer}
use Rattle.b67_action.specs.OnRoom.{PerformsOn}
use Rattle.b67_action.proofs.ArraysOnRoom.{index_on}
use Rattle.b67_action.proofs.arrays.index.Goals as goal

pub returns-clause-done : goal.returns-clause-done
returns-clause-done c = λ done.
    let r = c.args.regs.now in
    let room = c.args.room.now in
    let q = c.replace_two.new.regs in
    let more = c.replace_two.new.room in
    index_on r room c.requires.room c.args.next c.in-Some.array c.in-Some.at c.in-Some.ensures.found q more
    (subst (λ (w : Word). PerformsOn (answer (replaced r c.args.next 2 w)) r room q more) c.pack.ensures c.replace_two.ensures.done)
