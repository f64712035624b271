use Rattle.std.proofs.Common.{◌≡◌, List, drop}
use Rattle.algol_tree.specs.Blocks.{Block}
use Rattle.algol_tree.specs.Image.{pairs}
use Rattle.algol_tree.specs.Sites.{sites_in_pairs}
use Rattle.algol_tree.specs.Surroundings.{Surroundings}
use Rattle.algol_told.specs.Telling.{TellsAll}
use Rattle.algol_sites.specs.Noting.{noted_along}
use Rattle.algol_sites.proofs.statement.bounds.Given as goal

abbrev pub invariant-pairs : goal.invariant-pairs
invariant-pairs l =
    (blocks : List Block) (a : Surroundings) → TellsAll l.scopes (sites_in_pairs (pairs l.fn.pairs) a) →
    (noted_along blocks l.faults.first (sites_in_pairs (pairs (drop l.pair-index l.pairs)) a) ≡ noted_along blocks l.initial.faults.first (sites_in_pairs (pairs l.fn.pairs) a)) ×
    TellsAll l.scopes (sites_in_pairs (pairs (drop l.pair-index l.pairs)) a)
