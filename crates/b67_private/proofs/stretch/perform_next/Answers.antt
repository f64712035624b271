use Rattle.std.proofs.Common.{sym, Bool, subst, length}
use Rattle.b67_segment.specs.Decoded.{found}
use Rattle.b67_private.specs.Parts.{own_next, part_in}
use Rattle.b67_private.specs.Performing.{Steps}
use Rattle.b67_private.specs.Prepared.{IsRowOf}
use Rattle.b67_private.proofs.PlacedRows.{steps_by_row}
use Rattle.b67_private.proofs.Stepping.{some_is}
use Rattle.b67_private.proofs.stretch.perform_next.Goals as goal

pub returns-in-Some : goal.returns-in-Some
returns-in-Some c =
    let r = c.args.regs.now in
    let old = part_in c.args.regs.now c.args.room.now in
    let new = part_in c.perform.new.regs c.perform.new.room in
    let is_row = some_is (λ r'. IsRowOf r.place (found c.args.code.now r.segment r.ll r.place) r') c.row_at.result (c.in-Some.row, c.in-Some.next)
    (c.row_at.ensures c.args.code.now r.segment r.ll c.requires.table) c.in-Some.is in
    subst (λ (b : Bool). Steps (length c.args.room.now) (own_next c.args.code.now old) old b new) (sym c.is_ok.ensures.value)
    (steps_by_row (length c.args.room.now) c.args.code.now old new c.in-Some.row c.in-Some.next c.perform.result is_row c.perform.ensures)
