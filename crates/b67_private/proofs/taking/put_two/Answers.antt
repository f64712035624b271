use Rattle.b67_private.proofs.Rooms.{put_two_in}
use Rattle.b67_private.proofs.taking.put_two.Goals as goal

pub returns : goal.returns
returns c = put_two_in c.args.room.now c.args.regs.now.s c.args.lower c.args.upper c.requires.two c.requires.room.0
