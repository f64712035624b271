use Rattle.std.proofs.Common.{◌-◌, ◌≤◌, length}
use Rattle.b67_store.specs.Store.{row_words}
use Rattle.b67_linkage.proofs.arrays.row_length.Given as goal

abbrev pub invariant-counting : goal.invariant-counting
invariant-counting g l = l.at ≤ length (row_words (g.C.Core.rows l.core) l.row)

abbrev pub decreases-counting : goal.decreases-counting
decreases-counting g l = 1048576 - l.at
