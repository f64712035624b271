use Rattle.std.proofs.Common.{[], drop}
use Rattle.std.specs.List.{flat_map}
use Rattle.algol_tree.specs.Surroundings.{Surroundings}
use Rattle.algol_tree.specs.Couples.{known_in_heading, known_names}
use Rattle.algol_tree.specs.Names.{names_of_spec}
use Rattle.algol_known.specs.declared.known.Seen.TheVariants as seens
use Rattle.algol_known.specs.Seeing.{Sees}
use Rattle.algol_scope.proofs.Names.{Adding}
use Rattle.algol_scope.proofs.findings.Findings.known_in_heading.Given as goal

abbrev pub invariant-specs : goal.invariant-specs
invariant-specs l =
    (a : Surroundings) → Sees l.around seens.All a →
    Adding l.fn.self l.self [] [] (known_in_heading l.h a) (known_names a (flat_map names_of_spec (drop l.spec-index l.spec-items)))
