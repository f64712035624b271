use Rattle.std.proofs.Common.{◌≡◌, drop}
use Rattle.std.specs.List.{flat_map}
use Rattle.algol_tree.specs.declared.refusal.Code.TheVariants as codes
use Rattle.algol_tree.specs.declared.tree.Spec.{Spec}
use Rattle.algol_tree.specs.Names.{is_no_parameter, names_of_spec, places_if}
use Rattle.algol_tree.specs.Accepted.{broken, noted_all}
use Rattle.algol_scope.proofs.heading.note_unspecified.Given as goal

abbrev pub invariant-specs : goal.invariant-specs
invariant-specs l =
    noted_all l.faults.first
    (broken codes.UnknownName (flat_map (λ (s : Spec). places_if (is_no_parameter l.h) (names_of_spec s)) (drop l.spec-index l.spec-items))) ≡
    noted_all l.fn.faults.first (broken codes.UnknownName (flat_map (λ (s : Spec). places_if (is_no_parameter l.h) (names_of_spec s)) l.h.specs))
