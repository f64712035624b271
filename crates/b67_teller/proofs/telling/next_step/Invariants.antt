use Rattle.std.proofs.Common.{◌-◌, length}
use Rattle.b67_teller.proofs.telling.next_step.Given as goal

abbrev pub invariant-later : goal.invariant-later
invariant-later l = Unit {0}

abbrev pub decreases-later : goal.decreases-later
decreases-later l = length l.steps - l.at
