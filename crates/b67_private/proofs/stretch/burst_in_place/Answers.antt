use Rattle.b67_private.specs.Parts.{part_in}
use Rattle.b67_private.proofs.Above.{all_leave, has_part}
use Rattle.b67_private.proofs.stretch.burst_in_place.Goals as goal

pub perform_many-requires-clause-part : goal.perform_many-requires-clause-part
perform_many-requires-clause-part c = has_part (part_in c.args.regs.now c.args.room.now) c.requires.part

pub returns-clause-kept : goal.returns-clause-kept
returns-clause-kept c =
    (all_leave c.args.code.now c.requires.segments (part_in c.args.regs.now c.args.room.now) (part_in c.perform_many.new.regs c.perform_many.new.room)
    c.perform_many.result c.requires.part c.perform_many.ensures.plain).part

pub returns-clause-keeps : goal.returns-clause-keeps
returns-clause-keeps c =
    (all_leave c.args.code.now c.requires.segments (part_in c.args.regs.now c.args.room.now) (part_in c.perform_many.new.regs c.perform_many.new.room)
    c.perform_many.result c.requires.part c.perform_many.ensures.plain).keeps
