use Rattle.std.proofs.Common.{◌∙◌, ◌-◌, arith}
use Rattle.b67_private.proofs.Above.{StandsIn, room_has, rest}
use Rattle.b67_private.proofs.stretch.burst.Goals as goal

pub perform_many-performed-requires-clause-part : goal.perform_many-performed-requires-clause-part
perform_many-performed-requires-clause-part c =
    let base = c.args.p.now.regs.s - c.len.result in
    let on : StandsIn c.args.p.now base c.room-room.result.now =
    record { ends = omega (arith, c.requires.part.size, c.len.ensures.value); size = c.room-room.ensures.size; words = c.room-room.ensures.words } in
    room_has c.args.code.now c.requires.segments c.args.p.now c.requires.part base c.room-room.result.now on

pub overflow_sub-p : goal.overflow_sub-p
overflow_sub-p c =
    let base = c.args.p.now.regs.s - c.len.result in
    let on : StandsIn c.args.p.now base c.room-room.result.now =
    record { ends = omega (arith, c.requires.part.size, c.len.ensures.value); size = c.room-room.ensures.size; words = c.room-room.ensures.words } in
    (rest c.args.code.now c.requires.segments c.args.p.now c.requires.part base c.room-room.result.now on c.perform_many-performed.new.regs c.perform_many-performed.new.room
    c.perform_many-performed.result c.perform_many-performed.auto.room c.perform_many-performed.ensures.plain).within

pub cut-requires : goal.cut-requires
cut-requires c =
    let base = c.args.p.now.regs.s - c.len.result in
    let on : StandsIn c.args.p.now base c.room-room.result.now =
    record { ends = omega (arith, c.requires.part.size, c.len.ensures.value); size = c.room-room.ensures.size; words = c.room-room.ensures.words } in
    (rest c.args.code.now c.requires.segments c.args.p.now c.requires.part base c.room-room.result.now on c.perform_many-performed.new.regs c.perform_many-performed.new.room
    c.perform_many-performed.result c.perform_many-performed.auto.room c.perform_many-performed.ensures.plain).enough

pub returns-clause-plain : goal.returns-clause-plain
returns-clause-plain c =
    let base = c.args.p.now.regs.s - c.len.result in
    let on : StandsIn c.args.p.now base c.room-room.result.now =
    record { ends = omega (arith, c.requires.part.size, c.len.ensures.value); size = c.room-room.ensures.size; words = c.room-room.ensures.words } in
    rw c.cut.ensures (rest c.args.code.now c.requires.segments c.args.p.now c.requires.part base c.room-room.result.now on c.perform_many-performed.new.regs c.perform_many-performed.new.room
    c.perform_many-performed.result c.perform_many-performed.auto.room c.perform_many-performed.ensures.plain).plains

pub returns-clause-stops : goal.returns-clause-stops
returns-clause-stops c few =
    let base = c.args.p.now.regs.s - c.len.result in
    let on : StandsIn c.args.p.now base c.room-room.result.now =
    record { ends = omega (arith, c.requires.part.size, c.len.ensures.value); size = c.room-room.ensures.size; words = c.room-room.ensures.words } in
    rw c.cut.ensures ((rest c.args.code.now c.requires.segments c.args.p.now c.requires.part base c.room-room.result.now on c.perform_many-performed.new.regs c.perform_many-performed.new.room
    c.perform_many-performed.result c.perform_many-performed.auto.room c.perform_many-performed.ensures.plain).next ∙ c.perform_many-performed.ensures.stops few)

pub returns-clause-kept : goal.returns-clause-kept
returns-clause-kept c =
    let base = c.args.p.now.regs.s - c.len.result in
    let on : StandsIn c.args.p.now base c.room-room.result.now =
    record { ends = omega (arith, c.requires.part.size, c.len.ensures.value); size = c.room-room.ensures.size; words = c.room-room.ensures.words } in
    rw c.cut.ensures (rest c.args.code.now c.requires.segments c.args.p.now c.requires.part base c.room-room.result.now on c.perform_many-performed.new.regs c.perform_many-performed.new.room
    c.perform_many-performed.result c.perform_many-performed.auto.room c.perform_many-performed.ensures.plain).left.part

pub returns-clause-keeps : goal.returns-clause-keeps
returns-clause-keeps c =
    let base = c.args.p.now.regs.s - c.len.result in
    let on : StandsIn c.args.p.now base c.room-room.result.now =
    record { ends = omega (arith, c.requires.part.size, c.len.ensures.value); size = c.room-room.ensures.size; words = c.room-room.ensures.words } in
    (rest c.args.code.now c.requires.segments c.args.p.now c.requires.part base c.room-room.result.now on c.perform_many-performed.new.regs c.perform_many-performed.new.room
    c.perform_many-performed.result c.perform_many-performed.auto.room c.perform_many-performed.ensures.plain).left.keeps
