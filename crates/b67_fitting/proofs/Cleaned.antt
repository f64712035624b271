-- At no part of an accepted tree a rule is broken.
use Rattle.std.proofs.Common.{◌≡◌, List, [], ◌∷◌}
use Rattle.std.specs.List.{flat_map, AllByRecursion}
use Rattle.algol_tree.specs.declared.token.Spot.{Spot}
use Rattle.algol_tree.specs.declared.refusal.Code.{Code}
use Rattle.algol_tree.specs.declared.refusal.Code.TheVariants as codes
use Rattle.algol_tree.specs.Accepted.{broken, scope_faults_in, check_faults_in}
use Rattle.algol_tree.specs.Blocks.{Block}
use Rattle.algol_tree.specs.Checks.{wrong_types, not_assignable}
use Rattle.algol_tree.specs.Counted.{wrong_counts, bad_lists, wide_lines}
use Rattle.algol_tree.specs.Labels.{bad_labels}
use Rattle.algol_tree.specs.Names.{unknown_names, declared_twice}
use Rattle.algol_tree.specs.Plain.{PProgram}
use Rattle.algol_tree.specs.Sites.{Site}
use Rattle.b67_list.proofs.Lists.{append_none_left, append_none_right, none_mapped}
use Rattle.b67_fitting.proofs.Lists.{nil_each}
use Rattle.b67_fitting.proofs.Clean.{AreClean}

together : (blocks : List Block) (xs : List Site) → AllByRecursion (λ x. unknown_names x ≡ []) xs → AllByRecursion (λ x. declared_twice blocks x ≡ []) xs →
    AllByRecursion (λ x. wrong_types blocks x ≡ []) xs → AllByRecursion (λ x. not_assignable blocks x ≡ []) xs → AllByRecursion (λ x. wrong_counts x ≡ []) xs → AllByRecursion (λ x. bad_lists x ≡ []) xs →
    AllByRecursion (λ x. wide_lines x ≡ []) xs → AreClean blocks xs
together blocks [] known once typed assigned counted lined narrow = tt
together blocks (x ∷ xs) known once typed assigned counted lined narrow =
    (record { known = known.0; once = once.0; typed = typed.0; assigned = assigned.0; counted = counted.0; lined = lined.0; narrow = narrow.0 }, together blocks xs known.1 once.1 typed.1 assigned.1 counted.1 lined.1 narrow.1)

found_none : (code : Code) (f : Site → List Spot) (xs : List Site) → broken code (flat_map f xs) ≡ [] → AllByRecursion (λ x. f x ≡ []) xs
found_none code f xs h = nil_each f xs (none_mapped (λ (spot : Spot). record { spot = spot; code = code }) (flat_map f xs) h)

pub cleaned : (p : PProgram) (blocks : List Block) (xs : List Site) → scope_faults_in p blocks xs ≡ [] → check_faults_in blocks xs ≡ [] → AreClean blocks xs
cleaned p blocks xs s c =
    let names = append_none_left _ _ (append_none_left _ _ (append_none_left _ _ (append_none_left _ _ s))) in
    let five = append_none_left _ _ c in
    let four = append_none_left _ _ five in
    let three = append_none_left _ _ four in
    let two = append_none_left _ _ three in
    together blocks xs (found_none _ unknown_names xs (append_none_left _ _ names)) (found_none _ (declared_twice blocks) xs (append_none_right _ _ names))
    (found_none _ (wrong_types blocks) xs (append_none_left _ _ two)) (found_none _ (not_assignable blocks) xs (append_none_right _ _ three)) (found_none _ wrong_counts xs (append_none_right _ _ two))
    (found_none _ bad_lists xs (append_none_right _ _ four))
    (found_none _ wide_lines xs (append_none_right _ _ five))

-- no label is bad
pub unlabelled : (p : PProgram) (blocks : List Block) (xs : List Site) → check_faults_in blocks xs ≡ [] → bad_labels xs ≡ []
unlabelled p blocks xs c = none_mapped (λ (spot : Spot). record { spot = spot; code = codes.BadLabel }) (bad_labels xs) (append_none_right _ _ c)
