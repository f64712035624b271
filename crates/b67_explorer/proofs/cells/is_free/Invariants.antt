use Rattle.std.proofs.Common.{◌-◌}
use Rattle.b67_explorer.proofs.Touched.{FreeUpTo}
use Rattle.b67_explorer.proofs.cells.is_free.Given as goal

abbrev pub invariant-processes : goal.invariant-processes
invariant-processes g l = record { free : FreeUpTo l.machine.image l.stack l.done }

-- proposed from the loop's first test
abbrev pub decreases-processes : goal.decreases-processes
decreases-processes g l = l.last - l.done
