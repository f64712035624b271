use Rattle.std.proofs.Common.{◌≡◌, ℕ, List, drop, is_some, true}
use Rattle.std.specs.Prelude.{if◌then◌else◌}
use Rattle.algol_tree.specs.Sorts.{is_named_in}
use Rattle.algol_sorts.specs.Tables.{sort_named}
use Rattle.algol_sorts.proofs.heading.names_in.Given as goal

abbrev pub invariant-names : goal.invariant-names
invariant-names l =
    (q : List ℕ) → (if is_named_in (drop l.named-index l.names) q then true else is_some (sort_named l.table q)) ≡ is_named_in l.fn.names q
