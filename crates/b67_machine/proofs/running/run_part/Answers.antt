use Rattle.std.proofs.Common.{sym, subst, ◌∙◌, List, arith}
use Rattle.b67_word.specs.Word.{Word}
use Rattle.b67_private.specs.Parts.{part_with}
use Rattle.b67_machine.specs.Chaining.{RunsTo}
use Rattle.b67_machine.specs.Parts.{IsFull}
use Rattle.b67_machine.proofs.Whole.{whole_is_part, lent_whole, runs_whole, end_within, end_full, end_left, enough}
use Rattle.b67_machine.proofs.running.run_part.Goals as goal

pub room-room-requires : goal.room-room-requires
room-room-requires c =
    let t = c.requires.taken in
    omega (arith, (whole_is_part c.args.code.now t.0 t.1 c.args.part.now t.2 t.3 t.4).room, c.requires.full)

pub run_on_room-ran-requires-clause-lent : goal.run_on_room-ran-requires-clause-lent
run_on_room-ran-requires-clause-lent c =
    let t = c.requires.taken in
    (t.0, t.1, lent_whole c.args.code.now c.args.part.now c.room-room.result.now c.room-room.result.now c.args.part.now.regs c.requires.full c.room-room.ensures.words t.0 t.1 t.2 t.3 t.4)

pub overflow_sub-part : goal.overflow_sub-part
overflow_sub-part c =
    let start = c.args.part.now in
    let room = c.room-room.result.now in
    let last = c.run_on_room-ran.new.room in
    let q = c.run_on_room-ran.new.regs in
    let t = c.requires.taken in
    let within = end_within c.args.code.now start room last q c.requires.full c.room-room.ensures.words t.1 c.args.most c.run_on_room-ran.result c.run_on_room-ran.new.letters
    (λ img l. c.run_on_room-ran.ensures.ran img t.1 l) t.0 t.2 t.3 t.4 in
    within

pub cut-requires : goal.cut-requires
cut-requires c =
    let start = c.args.part.now in
    let room = c.room-room.result.now in
    let last = c.run_on_room-ran.new.room in
    let q = c.run_on_room-ran.new.regs in
    let t = c.requires.taken in
    let within = end_within c.args.code.now start room last q c.requires.full c.room-room.ensures.words t.1 c.args.most c.run_on_room-ran.result c.run_on_room-ran.new.letters
    (λ img l. c.run_on_room-ran.ensures.ran img t.1 l) t.0 t.2 t.3 t.4 in
    enough c.args.code.now start room last q c.requires.full c.room-room.ensures.words c.run_on_room-ran.auto.room c.room-room.ensures.size within

pub returns-clause-runs : goal.returns-clause-runs
returns-clause-runs c = λ p.
    let start = c.args.part.now in
    let room = c.room-room.result.now in
    let last = c.run_on_room-ran.new.room in
    let q = c.run_on_room-ran.new.regs in
    let t = c.requires.taken in
    let within = end_within c.args.code.now start room last q c.requires.full c.room-room.ensures.words t.1 c.args.most c.run_on_room-ran.result c.run_on_room-ran.new.letters
    (λ img l. c.run_on_room-ran.ensures.ran img t.1 l) t.0 t.2 t.3 t.4 in
    subst (λ (ws : List Word). RunsTo c.args.code.now p c.args.most start c.run_on_room-ran.result c.run_on_room-ran.new.letters (part_with q ws))
    (sym (c.cut.ensures ∙ end_left c.args.code.now start room last q c.requires.full c.room-room.ensures.words c.run_on_room-ran.auto.room c.room-room.ensures.size within))
    (runs_whole c.args.code.now start room last q c.requires.full c.room-room.ensures.words p c.args.most c.run_on_room-ran.result c.run_on_room-ran.new.letters
    (λ img l. c.run_on_room-ran.ensures.ran img p l))

pub returns-clause-full : goal.returns-clause-full
returns-clause-full c =
    let start = c.args.part.now in
    let room = c.room-room.result.now in
    let last = c.run_on_room-ran.new.room in
    let q = c.run_on_room-ran.new.regs in
    let t = c.requires.taken in
    let within = end_within c.args.code.now start room last q c.requires.full c.room-room.ensures.words t.1 c.args.most c.run_on_room-ran.result c.run_on_room-ran.new.letters
    (λ img l. c.run_on_room-ran.ensures.ran img t.1 l) t.0 t.2 t.3 t.4 in
    subst (λ (ws : List Word). IsFull (part_with q ws))
    (sym (c.cut.ensures ∙ end_left c.args.code.now start room last q c.requires.full c.room-room.ensures.words c.run_on_room-ran.auto.room c.room-room.ensures.size within))
    (end_full c.args.code.now start room last q c.requires.full c.room-room.ensures.words c.run_on_room-ran.auto.room c.room-room.ensures.size within)
