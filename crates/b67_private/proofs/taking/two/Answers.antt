use Rattle.std.proofs.Common.{arith}
use Rattle.b67_private.proofs.Rooms.{two_in}
use Rattle.b67_private.proofs.taking.two.Goals as goal

pub returns : goal.returns
returns c =
    let above = c.if-floor-regs.false in (
      two_in c.args.room.now c.args.regs.now.s c.index-room-length.result c.index-room-length-2.result _ _ (omega (arith, above))
          c.requires.room.0 c.index-room-length.is c.index-room-length-2.is,
      omega (arith, above, c.floor.ensures.value),
    )
