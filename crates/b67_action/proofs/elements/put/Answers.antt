use Rattle.std.proofs.Common.{sym, subst, ◌<◌, ℕ, arith}
use Rattle.b67_control.specs.Display.{levels}
use Rattle.b67_table.specs.Moves.{replaced}
use Rattle.b67_table.specs.Program.{answer}
use Rattle.b67_action.proofs.Open.{open_left, performed_open}
use Rattle.b67_action.proofs.elements.put.Goals as goal

pub returns-clause-done : goal.returns-clause-done
returns-clause-done g c =
    let st = g.C.Core.stacks c.args.core.now in
    let rows = g.C.Core.rows c.args.core.now in
    let r = c.args.regs.now in
    let room = c.room-room.result.now in
    let k = c.room-room.ensures.words in
    let left = c.replace_two.new.room in
    let whole = c.replace_two.auto.room in
    let lent = g.C.Core.lent c.args.core.now r.stack room left in
    performed_open st rows r c.requires.open r.s room k (answer (replaced r c.args.next 2 c.args.word)) c.replace_two.new.regs left (g.C.Core.stacks lent) (g.C.Core.rows lent)
    c.replace_two.ensures.keeps.0 (c.room-room.ensures.stacks left whole) (c.room-room.ensures.rows left whole) c.replace_two.ensures.done

pub returns-clause-open : goal.returns-clause-open
returns-clause-open g c =
    let st = g.C.Core.stacks c.args.core.now in
    let r = c.args.regs.now in
    let room = c.room-room.result.now in
    let left = c.replace_two.new.room in
    let whole = c.replace_two.auto.room in
    open_left st (g.C.Core.rows c.args.core.now) r c.requires.open c.replace_two.new.regs left (g.C.Core.stacks (g.C.Core.lent c.args.core.now r.stack room left)) c.replace_two.ensures.keeps.0
    (c.room-room.ensures.stacks left whole) (omega (arith, whole, c.replace_two.ensures.fewer, c.room-room.ensures.words.long)) (omega (arith, c.replace_two.ensures.fewer, c.requires.open.room))
    (subst (λ (n : ℕ). n < levels) (sym c.replace_two.ensures.keeps.1) c.requires.open.level)
