use Rattle.std.proofs.Common.{sym, ap, ◌∙◌, ◌-◌, Some, arith}
use Rattle.std.proofs.lemmas.Option.{slice_get-get_or}
use Rattle.b67_word.specs.Word.{Word}
use Rattle.b67_action.proofs.ArraysOnRoom.{stores_on}
use Rattle.b67_action.proofs.arrays.stored.Goals as goal

pub returns-clause-found : goal.returns-clause-found
returns-clause-found c =
    let r = c.args.regs.now in
    let room = c.args.room.now in
    let x = c.index-room-top.result in
    let y = c.index-room-top-2.result in
    stores_on r room c.requires.room x y (omega (arith, c.if-floor-regs.false, c.floor.ensures.value))
    (slice_get-get_or room (r.s - 1) x (omega (arith, c.if-floor-regs.false, c.floor.ensures.value, c.requires.room.within, c.requires.room.size))
    ∙ ap (λ (w : Word). Some w) (sym c.index-room-top.is))
    (slice_get-get_or room (r.s - 2) y (omega (arith, c.if-floor-regs.false, c.floor.ensures.value, c.requires.room.within, c.requires.room.size))
    ∙ ap (λ (w : Word). Some w) (sym c.index-room-top-2.is))
    (sym c.if-not-is_operand.ensures) c.in_ok-element.element (sym c.in_ok-element.ensures)
