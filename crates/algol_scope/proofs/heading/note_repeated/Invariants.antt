use Rattle.std.proofs.Common.{◌≡◌, ℕ, List, drop, true}
use Rattle.std.specs.Prelude.{is_some, ◌||◌}
use Rattle.algol_tree.specs.declared.refusal.Code.TheVariants as codes
use Rattle.algol_tree.specs.Sorts.{is_named_in}
use Rattle.algol_tree.specs.Names.{name_is_one_of, repeated}
use Rattle.algol_tree.specs.Accepted.{broken, noted_all}
use Rattle.algol_known.specs.Naming.{has_name, sort_named}
use Rattle.algol_known.specs.Passing.{kept}
use Rattle.algol_scope.proofs.Headings.{Repeats}
use Rattle.algol_scope.proofs.heading.note_repeated.Given as goal

abbrev pub invariant-names : goal.invariant-names
invariant-names l =
    record {
      noted :
          (seen : List (List ℕ)) →
          ((q : List ℕ) → name_is_one_of seen q ≡ (has_name l.names.typed l.names.declared l.names.parameters q || is_some (sort_named l.fn.before q))) →
          Repeats (has_name l.names.typed l.names.declared l.names.parameters) (sort_named l.before) l.faults.first
          (noted_all l.fn.faults.first (broken codes.DeclaredTwice (repeated seen l.fn.ns))) (drop l.n-index l.ns);
      before :
          (q : List ℕ) →
          kept (sort_named l.before q) (is_named_in (drop l.n-index l.ns) q) true ≡ kept (sort_named l.fn.before q) (is_named_in l.fn.ns q) true;
    }
