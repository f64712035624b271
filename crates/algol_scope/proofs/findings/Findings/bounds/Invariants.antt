use Rattle.std.proofs.Common.{drop}
use Rattle.algol_tree.specs.Sites.{sites_in_pairs}
use Rattle.algol_tree.specs.Image.{pairs}
use Rattle.algol_known.specs.declared.known.Seen.TheVariants as seens
use Rattle.algol_scope.proofs.Walking.{Follows}
use Rattle.algol_scope.proofs.findings.Findings.bounds.Given as goal

abbrev pub invariant-pairs : goal.invariant-pairs
invariant-pairs l =
    Follows l.around seens.BeforeDeclarations l.fn.self l.self (sites_in_pairs (pairs l.fn.ps))
    (sites_in_pairs (pairs (drop l.pair-index l.pair-items)))
