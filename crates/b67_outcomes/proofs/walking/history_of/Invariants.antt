use Rattle.std.proofs.Common.{ℕ, List, ◌++◌}
use Rattle.b67_outcomes.specs.Finding.{History}
use Rattle.b67_outcomes.proofs.walking.history_of.Given as goal

-- what was gone back and what is left of the history
abbrev pub invariant-back : goal.invariant-back
invariant-back l = (rest : List ℕ) × History l.steps l.at rest × History l.steps l.number (l.history.items ++ rest)

abbrev pub decreases-back : goal.decreases-back
decreases-back l = l.at
