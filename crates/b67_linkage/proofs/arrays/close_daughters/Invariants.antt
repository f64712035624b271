use Rattle.std.proofs.Common.{◌≡◌, ◌≤◌, length, take}
use Rattle.b67_store.specs.Store.{row_words, closed_at}
use Rattle.b67_linkage.specs.Closing.{without_rows, AreShort}
use Rattle.b67_linkage.proofs.arrays.close_daughters.Given as goal

abbrev pub invariant-words : goal.invariant-words
invariant-words g l = record {
  stacks : g.C.Core.stacks l.core ≡ g.C.Core.stacks l.initial.core;
  short : AreShort (g.C.Core.rows l.core);
  mother : row_words (g.C.Core.rows l.core) l.mother ≡ row_words (g.C.Core.rows l.initial.core) l.mother;
  within : l.at ≤ length (row_words (g.C.Core.rows l.initial.core) l.mother);
  rest : closed_at (without_rows (take l.at (row_words (g.C.Core.rows l.initial.core) l.mother)) (g.C.Core.rows l.core)) l.mother ≡ closed_at (without_rows (row_words (g.C.Core.rows l.initial.core) l.mother) (g.C.Core.rows l.initial.core)) l.mother;
}

abbrev pub decreases-words : goal.decreases-words
decreases-words g l = l.at
