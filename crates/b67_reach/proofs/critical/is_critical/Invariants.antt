use Rattle.std.proofs.Common.{drop, length, ◌-◌, ◌≡◌}
use Rattle.b67_reach.proofs.Criticals.{some_critical}
use Rattle.b67_reach.proofs.critical.is_critical.Given as goal

abbrev pub invariant-processes : goal.invariant-processes
invariant-processes l = record { rest : some_critical l.frame (drop l.index l.states) (drop l.index l.regs) ≡ some_critical l.frame l.states l.regs }

-- proposed from the loop's first test
abbrev pub decreases-processes : goal.decreases-processes
decreases-processes l = length l.states - l.index
