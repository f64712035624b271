use Rattle.std.proofs.Common.{◌≡◌, ℕ, List, drop}
use Rattle.algol_tree.specs.Sorts.{is_named_in}
use Rattle.algol_known.specs.Naming.{sort_named}
use Rattle.algol_known.specs.Passing.{kept}
use Rattle.algol_known.proofs.formal.say_all.Given as goal

abbrev pub invariant-names : goal.invariant-names
invariant-names l =
    (q : List ℕ) →
    kept (sort_named l.table q) (is_named_in (drop l.n-index l.names) q) l.value ≡ kept (sort_named l.fn.table q) (is_named_in l.fn.names q) l.value
