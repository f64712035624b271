use Rattle.std.proofs.Common.{arith}
use Rattle.b67_private.proofs.Rooms.{top_in}
use Rattle.b67_private.proofs.taking.top.Goals as goal

pub returns : goal.returns
returns c =
    let above = c.if-floor-regs.false in (
      top_in c.args.room.now c.args.regs.now.s c.index-room-regs.result _ (omega (arith, above)) c.requires.room.0
          c.index-room-regs.is,
      omega (arith, above, c.floor.ensures.value),
    )
