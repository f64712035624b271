use Rattle.std.proofs.Common.{arith}
use Rattle.b67_private.proofs.Rooms.{put_in}
use Rattle.b67_private.proofs.taking.replace.Goals as goal

pub returns-clause-words : goal.returns-clause-words
returns-clause-words c =
    put_in c.args.room.now c.args.regs.now.s c.args.count c.args.word c.requires.within c.requires.room.0
    (omega (arith, c.requires.within, c.requires.fits))
