use Rattle.std.proofs.Common.{sym, ◌+◌, arith}
use Rattle.b67_action.proofs.OnRoom.{held_at}
use Rattle.b67_action.proofs.cells.cell_at.Goals as goal

pub returns-then-at-regs-clause-holds : goal.returns-then-at-regs-clause-holds
returns-then-at-regs-clause-holds c =
    let word = held_at c.args.room.now (c.from.result + c.from-2.result) (omega (arith, c.if-at-regs.true, c.requires.room.within, c.requires.room.size)) in
    record {
      frame = c.in_ok-frame.frame;
      shown = sym c.in_ok-frame.ensures;
      own = c.if-frame-regs.true;
      here = omega (arith, c.from.ensures, c.from-2.ensures);
      within = c.if-at-regs.true;
      word = word.0;
      stands = word.1;
    }
