use Rattle.std.proofs.Common.{◌≡◌, ℕ, List, drop, false}
use Rattle.algol_tree.specs.declared.refusal.Code.TheVariants as codes
use Rattle.algol_tree.specs.declared.tree.Heading.{Heading}
use Rattle.algol_tree.specs.Sorts.{is_named_in}
use Rattle.algol_tree.specs.Names.{is_no_parameter, places_if}
use Rattle.algol_tree.specs.Accepted.{broken, noted_all}
use Rattle.algol_known.specs.Naming.{sort_named}
use Rattle.algol_known.specs.Passing.{said}
use Rattle.algol_scope.proofs.heading.note_unknown.Given as goal

abbrev pub invariant-names : goal.invariant-names
invariant-names l =
    (h : Heading) → ((q : List ℕ) → said (sort_named l.params q) false ≡ is_named_in h.params q) →
    noted_all l.faults.first (broken codes.UnknownName (places_if (is_no_parameter h) (drop l.n-index l.ns))) ≡
    noted_all l.fn.faults.first (broken codes.UnknownName (places_if (is_no_parameter h) l.fn.ns))
