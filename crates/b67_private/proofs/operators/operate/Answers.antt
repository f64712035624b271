use Rattle.std.proofs.Common.{length}
use Rattle.b67_private.specs.Parts.{part_in}
use Rattle.b67_private.proofs.Stepping.{held_operand, performed}
use Rattle.b67_private.proofs.operators.operate.Goals as goal

pub row_of-row-requires : goal.row_of-row-requires
row_of-row-requires c = held_operand c.args.regs.now.ll c.args.op.now c.requires.ready.level c.requires.fits

pub returns : goal.returns
returns c =
    performed (length c.args.room.now) c.args.op.now c.args.next c.row_of-row.result (part_in c.args.regs.now c.args.room.now) (part_in c.perform.new.regs c.perform.new.room)
    c.perform.result c.row_of-row.ensures.part c.perform.ensures
