use Rattle.std.proofs.Common.{length}
use Rattle.b67_flat.proofs.row_table.take_all.Given as goal

abbrev pub invariant-taking : goal.invariant-taking
invariant-taking l = Unit {0}

abbrev pub decreases-taking : goal.decreases-taking
decreases-taking l = length l.free.numbers
