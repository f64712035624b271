use Rattle.std.proofs.Common.{◌≡◌}
use Rattle.b67_exec.specs.Texts.{counts_in}
use Rattle.b67_exec.proofs.report.operators_of.Given as goal

abbrev pub invariant-processes : goal.invariant-processes
invariant-processes g l = l.operators.items ≡ counts_in l.machine.counts 1 l.before
