use Rattle.std.proofs.Common.{◌-◌, ◌+◌}
use Rattle.std.specs.Prelude.{length}
use Rattle.b67_machine.specs.Tables.{AreTables}
use Rattle.b67_machine.proofs.tables.add.Given as goal

abbrev pub invariant-segments : goal.invariant-segments
invariant-segments l = AreTables l.code l.segments.items

abbrev pub decreases-segments : goal.decreases-segments
decreases-segments l = l.segment + 1 - length l.segments.items
