use Rattle.std.proofs.Common.{◌≡◌, ℕ, ◌≤◌, true}
use Rattle.b67_table.specs.Ending.{may_act}
use Rattle.b67_outcomes.proofs.search.last_able.Given as goal

-- those after this one may not act
abbrev pub invariant-processes : goal.invariant-processes
invariant-processes g l = (p : ℕ) → may_act (g.W.Walker.image l.walker) p ≡ true → (1 ≤ p) × (p ≤ l.process)

abbrev pub decreases-processes : goal.decreases-processes
decreases-processes g l = l.process
