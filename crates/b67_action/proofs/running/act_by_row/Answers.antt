use Rattle.std.proofs.Common.{◌≡◌, subst}
use Rattle.b67_segment.specs.Decoded.{found}
use Rattle.b67_private.specs.declared.operators.Row.{Row}
use Rattle.b67_private.specs.declared.operators.Row.TheVariants as rows
use Rattle.b67_private.specs.Actions.{words_program}
use Rattle.b67_private.specs.Flat.{row_from}
use Rattle.b67_private.specs.Prepared.{IsRowOf}
use Rattle.b67_action.specs.Lettered.{LettersOn}
use Rattle.b67_action.specs.OnRoom.{PerformsOn}
use Rattle.b67_action.proofs.Gone.{row_stands}
use Rattle.b67_action.proofs.Lent.{room_is, action_goes, action_lends}
use Rattle.b67_action.proofs.Ready.{some_is}
use Rattle.b67_action.proofs.Went.{of_named}
use Rattle.b67_action.proofs.running.act_by_row.Goals as goal

pub perform_on_room-requires : goal.perform_on_room-requires
perform_on_room-requires c =
    let r = c.args.regs.now in
    let is = some_is (λ k. row_from c.args.row.now ≡ rows.Words k) c.frequent_words.result c.in-Some.kind c.in-Some.is c.frequent_words.ensures in
    let row = subst (λ (w : Row). IsRowOf r.place (found c.args.code.now r.segment r.ll r.place) (w, c.args.next)) is c.requires.row in
    record {
      held = (row_stands r.place (found c.args.code.now r.segment r.ll r.place) (rows.Words c.in-Some.kind) c.args.next row).held;
      room = room_is c.args.code.now c.requires.lent.0 c.requires.lent.1 r c.args.room.now c.requires.lent.2 c.requires.room;
    }

pub returns-clause-goes : goal.returns-clause-goes
returns-clause-goes c =
    let code = c.args.code.now in
    let r = c.args.regs.now in
    let room = c.args.room.now in
    let kind = c.in-Some.kind in
    let is = some_is (λ k. row_from c.args.row.now ≡ rows.Words k) c.frequent_words.result kind c.in-Some.is c.frequent_words.ensures in
    let row = subst (λ (w : Row). IsRowOf r.place (found code r.segment r.ll r.place) (w, c.args.next)) is c.requires.row in
    let stands = row_stands r.place (found code r.segment r.ll r.place) (rows.Words kind) c.args.next row in
    let q = c.perform_on_room.new.regs in
    let more = c.perform_on_room.new.room in
    of_named _ c.perform_on_room.result
    (λ named e img p l. action_goes code img p r room l q more stands.op c.args.next kind c.perform_on_room.ensures.keeps stands.here stands.is
    (some_is (λ k. PerformsOn (words_program kind r c.args.next) r room q more) c.perform_on_room.result named e c.perform_on_room.ensures.done)
    named stands.letter (some_is (LettersOn kind r room) c.perform_on_room.result named e c.perform_on_room.ensures.letter))

pub returns-clause-lends : goal.returns-clause-lends
returns-clause-lends c =
    let code = c.args.code.now in
    let r = c.args.regs.now in
    let room = c.args.room.now in
    let kind = c.in-Some.kind in
    let is = some_is (λ k. row_from c.args.row.now ≡ rows.Words k) c.frequent_words.result kind c.in-Some.is c.frequent_words.ensures in
    let row = subst (λ (w : Row). IsRowOf r.place (found code r.segment r.ll r.place) (w, c.args.next)) is c.requires.row in
    let stands = row_stands r.place (found code r.segment r.ll r.place) (rows.Words kind) c.args.next row in
    let q = c.perform_on_room.new.regs in
    let more = c.perform_on_room.new.room in
    of_named _ c.perform_on_room.result
    (λ named e img p l. action_lends code img p r room l q more stands.op c.args.next kind c.perform_on_room.ensures.keeps stands.here stands.is
    (some_is (λ k. PerformsOn (words_program kind r c.args.next) r room q more) c.perform_on_room.result named e c.perform_on_room.ensures.done))
