use Rattle.std.proofs.Common.{◌-◌, ◌≤◌}
use Rattle.b67_table.specs.Privacy.{RegistersStay}
use Rattle.b67_private.specs.Parts.{AreReady, PlainParts, part_in}
use Rattle.b67_private.proofs.stretch.perform_many.Given as goal

abbrev pub invariant-plain : goal.invariant-plain
invariant-plain l = record {
  performed : PlainParts l.fn.code (part_in l.initial.regs l.initial.room) l.count (part_in l.regs l.room);
  ready : AreReady l.regs;
  keeps : RegistersStay l.initial.regs l.regs;
  within : l.count ≤ l.fn.most;
}

abbrev pub decreases-plain : goal.decreases-plain
decreases-plain l = l.most - l.count
