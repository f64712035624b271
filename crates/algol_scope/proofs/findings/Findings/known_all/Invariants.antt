use Rattle.std.proofs.Common.{[], drop}
use Rattle.algol_tree.specs.Surroundings.{Surroundings}
use Rattle.algol_tree.specs.Couples.{known_names}
use Rattle.algol_known.specs.declared.known.Seen.TheVariants as seens
use Rattle.algol_known.specs.Seeing.{Sees}
use Rattle.algol_scope.proofs.Names.{Adding}
use Rattle.algol_scope.proofs.findings.Findings.known_all.Given as goal

abbrev pub invariant-names : goal.invariant-names
invariant-names l =
    (a : Surroundings) → Sees l.around seens.All a → Adding l.fn.self l.self [] [] (known_names a l.fn.ns) (known_names a (drop l.n-index l.ns))
