use Rattle.std.proofs.Common.{◌+◌, inr, refl, ◌∙◌, length, arith}
use Rattle.b67_private.specs.Parts.{PlainParts, own_next, part_in, stay}
use Rattle.b67_private.proofs.Above.{ready, still}
use Rattle.b67_private.proofs.Stepping.{one_more, waits, went}
use Rattle.b67_private.proofs.stretch.perform_many.Goals as goal

pub plain-init : goal.plain-init
plain-init c =
    record {
      performed = stay;
      ready = ready (part_in c.args.regs.now c.args.room.now) c.requires.part;
      keeps = (refl, refl, refl, refl, refl, refl);
      within = omega arith;
    }

pub perform_next-requires-clause-room : goal.perform_next-requires-clause-room
perform_next-requires-clause-room c =
    (omega (arith, c.plain.invariant.ready.room, c.plain.auto.room, c.requires.room), omega (arith, c.plain.auto.room, c.requires.room))

pub returns-else-perform_next-clause-stops : goal.returns-else-perform_next-clause-stops
returns-else-perform_next-clause-stops c = λ less.
    waits (length c.plain.room) c.args.code.now (part_in c.plain.regs c.plain.room) (part_in c.perform_next.new.regs c.perform_next.new.room) c.perform_next.result
    c.if-perform_next.false (inr (c.plain.auto.room ∙ c.requires.room)) c.perform_next.ensures

pub plain-preserved : goal.plain-preserved
plain-preserved c =
    let first = part_in c.args.regs.now c.args.room.now in
    let old = part_in c.plain.regs c.plain.room in
    let new = part_in c.perform_next.new.regs c.perform_next.new.room in
    let performed : PlainParts c.args.code.now first (c.plain.count + 1) new =
    one_more c.args.code.now first old new c.plain.count c.plain.invariant.performed
    (went (length c.plain.room) (own_next c.args.code.now old) old new c.perform_next.result c.if-perform_next.true c.perform_next.ensures) in
    let left = still c.args.code.now c.requires.segments first new (c.plain.count + 1) c.requires.part performed in
    record { performed = performed; ready = left.ready; keeps = left.keeps; within = omega (arith, c.plain-test.true) }
