use Rattle.std.proofs.Common.{sym, subst, Bool, length}
use Rattle.b67_private.specs.Parts.{own_next, part_in}
use Rattle.b67_private.specs.Flat.{row_from}
use Rattle.b67_private.specs.Performing.{Steps}
use Rattle.b67_private.proofs.Above.{ready_part}
use Rattle.b67_private.proofs.PlacedRows.{steps_by_row}
use Rattle.b67_action.proofs.Lent.{part_is, still_held, none_done, plain_keeps, plain_steps, plain_lends}
use Rattle.b67_action.proofs.running.plain_by_row.Goals as goal

pub perform_flat-requires : goal.perform_flat-requires
perform_flat-requires c = record {
  ready = ready_part (part_in c.args.regs.now c.args.room.now) (part_is c.args.code.now c.requires.lent.0 c.requires.lent.1 c.args.regs.now c.args.room.now c.requires.lent.2);
  room = c.requires.room;
}

pub returns : goal.returns
returns c =
    let code = c.args.code.now in
    let r = c.args.regs.now in
    let room = c.args.room.now in
    let q = c.perform_flat.new.regs in
    let more = c.perform_flat.new.room in
    let old = part_in r room in
    let b = c.is_ok.result in
    let size = length room in
    let steps : Steps size (own_next code old) old b (part_in q more) =
    subst (λ (x : Bool). Steps size (own_next code old) old x (part_in q more)) (sym c.is_ok.ensures.value)
    (steps_by_row size code old (part_in q more) (row_from c.args.row.now) c.args.next c.perform_flat.result c.requires.row c.perform_flat.ensures) in
    record {
      steps = λ img p l. plain_steps code img p r room l q more c.perform_flat.auto.room b steps;
      lends = λ img p l. plain_lends code img p r room l q more b steps;
      none = λ e. none_done size (own_next code old) old (part_in q more) b steps e;
      held = still_held size (own_next code old) old (part_in q more) b c.requires.room.0 steps;
      keeps = plain_keeps code c.requires.lent.0 c.requires.lent.1 r room c.requires.lent.2 q more b steps;
    }
