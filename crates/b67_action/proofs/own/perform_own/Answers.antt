use Rattle.std.proofs.Common.{sym, ap, subst, ◌∙◌, List, length, take, Err, arith}
use Rattle.std.proofs.lemmas.List.{reverse-reverse}
use Rattle.b67_word.specs.Word.{Word}
use Rattle.b67_store.specs.Store.{with_stack}
use Rattle.b67_private.specs.Parts.{own_outcome, part_in}
use Rattle.b67_private.proofs.Above.{ready_part}
use Rattle.b67_reach.specs.declared.Stop.{Stop}
use Rattle.b67_reach.specs.Images.{own_of_image}
use Rattle.b67_action.specs.Own.{part_of_process, DoesOwn}
use Rattle.b67_action.proofs.InRoom.{still_open, cut_after, place_in, room_goes, room_stops}
use Rattle.b67_action.proofs.OwnOutcome.{performs_stops, performs_stays}
use Rattle.b67_action.proofs.own.perform_own.Goals as goal

pub operate-answer-requires-clause-ready : goal.operate-answer-requires-clause-ready
operate-answer-requires-clause-ready g c = ready_part (part_of_process (g.C.Core.stacks c.args.core.now) c.args.regs.now) c.requires.part

pub operate-answer-requires-clause-room : goal.operate-answer-requires-clause-room
operate-answer-requires-clause-room g c =
    (omega (arith, c.requires.linked.size, c.room-room.ensures.words.within), c.room-room.ensures.words.size)

pub cut_words-requires : goal.cut_words-requires
cut_words-requires g c =
    let n = c.args.regs.now.stack in
    let left = c.operate-answer.new.room in
    still_open (g.C.Core.stacks c.args.core.now) (g.C.Core.stacks (g.C.Core.lent c.args.core.now n c.room-room.result.now left)) n left c.requires.linked.opened
    (c.room-room.ensures.stacks left c.operate-answer.auto.room)

pub returns-in-Ok : goal.returns-in-Ok
returns-in-Ok g c =
    let st = g.C.Core.stacks c.args.core.now in
    let rows = g.C.Core.rows c.args.core.now in
    let r = c.args.regs.now in
    let room = c.room-room.result.now in
    let left = c.operate-answer.new.room in
    let whole = c.operate-answer.auto.room in
    let lent = g.C.Core.stacks (g.C.Core.lent c.args.core.now r.stack room left) in
    let q = part_in c.operate-answer.new.regs left in
    let cut = cut_after st lent r.stack left c.requires.linked.opened (c.room-room.ensures.stacks left whole) (g.C.Core.stacks c.cut_words.new.core) q.regs.s c.cut_words.ensures.stacks in
    room_goes st rows r c.requires.linked c.args.op.now c.args.next c.room_for-least.result room c.room-room.ensures.words q (g.C.Core.stacks c.cut_words.new.core) (g.C.Core.rows c.cut_words.new.core)
    c.requires.part c.requires.fits c.ranges.next.fits c.in-Ok.ensures.0
    (cut ∙ ap (λ (ws : List Word). with_stack st r.stack ws) (sym (reverse-reverse (take q.regs.s left))))
    (c.cut_words.ensures.rows ∙ c.room-room.ensures.rows left whole)

pub returns-in-Err : goal.returns-in-Err
returns-in-Err g c =
    let st = g.C.Core.stacks c.args.core.now in
    let rows = g.C.Core.rows c.args.core.now in
    let r = c.args.regs.now in
    let room = c.room-room.result.now in
    let left = c.operate-answer.new.room in
    let whole = c.operate-answer.auto.room in
    let lent = g.C.Core.stacks (g.C.Core.lent c.args.core.now r.stack room left) in
    let old = part_in r room in
    let q = part_in c.operate-answer.new.regs left in
    let cut = cut_after st lent r.stack left c.requires.linked.opened (c.room-room.ensures.stacks left whole) (g.C.Core.stacks c.cut_words.new.core) q.regs.s c.cut_words.ensures.stacks in
    let outcome = own_outcome c.args.op.now c.args.next old in
    let size = length room in
    subst (λ (s : Stop). DoesOwn {A = Unit {0}} c.args.op.now c.args.next (own_of_image st rows r) (own_of_image (g.C.Core.stacks c.cut_words.new.core) (g.C.Core.rows c.cut_words.new.core) q.regs) (Err s))
    (sym c.stop_by.ensures)
    (room_stops st rows r c.requires.linked c.args.op.now c.args.next c.room_for-least.result room c.room-room.ensures.words c.in-Err.stop q (g.C.Core.stacks c.cut_words.new.core) (g.C.Core.rows c.cut_words.new.core)
    (performs_stops size outcome old q c.operate-answer.result c.in-Err.stop c.in-Err.is
    (place_in r.s c.room_for-least.result size c.room_for-least.ensures.place c.room-room.ensures.words.long c.room-room.ensures.words.size) c.operate-answer.ensures)
    (performs_stays size outcome old q c.operate-answer.result c.in-Err.stop c.in-Err.is c.operate-answer.ensures)
    (cut ∙ ap (λ (ws : List Word). with_stack st r.stack ws) (sym (reverse-reverse (take q.regs.s left))))
    (c.cut_words.ensures.rows ∙ c.room-room.ensures.rows left whole))
