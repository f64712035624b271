use Rattle.std.proofs.Common.{◌-◌, ◌+◌}
use Rattle.std.specs.Prelude.{length}
use Rattle.b67_machine.specs.Tables.{AreLevels}
use Rattle.b67_machine.proofs.tables.decode.Given as goal

abbrev pub invariant-levels : goal.invariant-levels
invariant-levels l = AreLevels l.code l.segment l.levels.items

abbrev pub decreases-levels : goal.decreases-levels
decreases-levels l = l.level + 1 - length l.levels.items
