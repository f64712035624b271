use Rattle.std.proofs.Common.{sym, ap, ◌∙◌, ◌-◌, [], Some, arith}
use Rattle.std.proofs.lemmas.Option.{slice_get-get_or}
use Rattle.b67_word.specs.Word.{Word}
use Rattle.b67_action.proofs.OnRoom.{store_on, reference_stores}
use Rattle.b67_action.proofs.room.store.Goals as goal

pub returns-clause-letter : goal.returns-clause-letter
returns-clause-letter c = λ done stacks there.
    let r = c.args.regs.now in
    let room = c.args.room.now in
    let x = c.index-room-top.result in
    let y = c.index-room-top-2.result in
    reference_stores r room c.requires.room stacks [] there x y (omega (arith, c.if-floor-regs.false, c.floor.ensures.value))
    (slice_get-get_or room (r.s - 1) x (omega (arith, c.if-floor-regs.false, c.floor.ensures.value, c.requires.room.within, c.requires.room.size))
    ∙ ap (λ (w : Word). Some w) (sym c.index-room-top.is))
    (slice_get-get_or room (r.s - 2) y (omega (arith, c.if-floor-regs.false, c.floor.ensures.value, c.requires.room.within, c.requires.room.size))
    ∙ ap (λ (w : Word). Some w) (sym c.index-room-top-2.is))
    c.in-Some.reference (sym c.unpack.ensures.value ∙ c.in-Some.is)

pub returns-clause-done : goal.returns-clause-done
returns-clause-done c = λ done stacks rows there.
    let r = c.args.regs.now in
    let room = c.args.room.now in
    let x = c.index-room-top.result in
    let y = c.index-room-top-2.result in
    store_on r room c.requires.room stacks rows there x y (omega (arith, c.if-floor-regs.false, c.floor.ensures.value))
    (slice_get-get_or room (r.s - 1) x (omega (arith, c.if-floor-regs.false, c.floor.ensures.value, c.requires.room.within, c.requires.room.size))
    ∙ ap (λ (w : Word). Some w) (sym c.index-room-top.is))
    (slice_get-get_or room (r.s - 2) y (omega (arith, c.if-floor-regs.false, c.floor.ensures.value, c.requires.room.within, c.requires.room.size))
    ∙ ap (λ (w : Word). Some w) (sym c.index-room-top-2.is))
    c.args.next c.in-Some-operand_at.at c.in-Some.reference c.in-Some-operand_at.ensures (sym c.unpack.ensures.value ∙ c.in-Some.is) (sym c.if-not-is_operand.ensures)
