use Rattle.std.proofs.Common.{◌≡◌}
use Rattle.b67_outcomes.proofs.keep.is_kept.Given as goal

abbrev pub invariant-older : goal.invariant-older
invariant-older g l = g.W.Walker.code l.second ≡ g.W.Walker.code l.fn.second

abbrev pub decreases-older : goal.decreases-older
decreases-older g l = l.at
