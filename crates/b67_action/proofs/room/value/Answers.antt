use Rattle.std.proofs.Common.{◌∙◌, [], arith}
use Rattle.std.proofs.lemmas.Option.{get_or_from_slice_get}
use Rattle.b67_action.proofs.OnRoom.{value_on, value_reads}
use Rattle.b67_action.proofs.room.value.Goals as goal

pub returns-clause-letter : goal.returns-clause-letter
returns-clause-letter c = λ done stacks there.
    value_reads c.args.regs.now c.args.room.now c.requires.room stacks [] there c.args.couple.level c.args.couple.index c.in-Some.at c.in-Some.ensures

pub returns-clause-done : goal.returns-clause-done
returns-clause-done c = λ done stacks rows there.
    let h = c.in-Some.ensures in
    value_on c.args.regs.now c.args.room.now c.requires.room stacks rows there c.args.couple c.args.next c.in-Some.at h c.index-room-at.result
    (c.index-room-at.is ∙ get_or_from_slice_get c.args.room.now c.in-Some.at h.word c.index-room-at.result h.stands) (omega (arith, c.if-top-room.false))
