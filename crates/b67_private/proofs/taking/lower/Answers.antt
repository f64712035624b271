use Rattle.std.proofs.Common.{◌-◌, arith}
use Rattle.b67_private.proofs.Rooms.{cut_in}
use Rattle.b67_private.proofs.taking.lower.Goals as goal

pub returns-clause-words : goal.returns-clause-words
returns-clause-words c =
    cut_in c.args.room.now c.args.regs.now.s (c.args.regs.now.s - c.args.count) c.args.count (omega (arith, c.requires.within)) c.requires.room.0
