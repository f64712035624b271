use Rattle.std.proofs.Common.{◌≡◌, ◌<◌, ◌≤◌, ◌^◌, ℕ, All, length}
use Rattle.b67_machine.specs.Kept.{operators_counted}
use Rattle.b67_explain.proofs.report.operators_of.Given as goal

abbrev pub invariant-processes : goal.invariant-processes
invariant-processes g l = record {
  each : length l.operators.items ≡ l.before;
  are : (p : ℕ) → 1 ≤ p → p ≤ length l.operators.items → operators_counted l.operators.items p ≡ operators_counted l.machine.counts p;
  numbers : All (λ (count : ℕ). count < 2 ^ 64) l.operators.items;
}
