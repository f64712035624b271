use Rattle.std.proofs.Common.{refl}
use Rattle.b67_action.proofs.Open.{open_left, own_same}
use Rattle.b67_action.proofs.elements.named.Goals as goal

pub returns-clause-same : goal.returns-clause-same
returns-clause-same g c =
    let st = g.C.Core.stacks c.args.core.now in
    let rows = g.C.Core.rows c.args.core.now in
    let r = c.args.regs.now in
    let room = c.room-room.result.now in
    let k = c.room-room.ensures.words in
    let lent = g.C.Core.lent c.args.core.now r.stack room room in
    own_same st rows r c.requires.open r.s room k (g.C.Core.stacks lent) (g.C.Core.rows lent) (c.room-room.ensures.stacks room refl) (c.room-room.ensures.rows room refl)

pub returns-clause-open : goal.returns-clause-open
returns-clause-open g c =
    let st = g.C.Core.stacks c.args.core.now in
    let r = c.args.regs.now in
    let room = c.room-room.result.now in
    let k = c.room-room.ensures.words in
    open_left st (g.C.Core.rows c.args.core.now) r c.requires.open r room (g.C.Core.stacks (g.C.Core.lent c.args.core.now r.stack room room)) refl (c.room-room.ensures.stacks room refl)
    k.long c.requires.open.room c.requires.open.level
