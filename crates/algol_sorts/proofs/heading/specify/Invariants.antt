use Rattle.std.proofs.Common.{◌≡◌, ℕ, List, drop}
use Rattle.std.specs.Prelude.{if◌then◌else◌}
use Rattle.algol_tree.specs.Sorts.{is_named_in, specified_by}
use Rattle.algol_sorts.specs.Specified.{sort_under, specified_as}
use Rattle.algol_sorts.proofs.heading.specify.Given as goal

abbrev pub invariant-names : goal.invariant-names
invariant-names l =
    (q : List ℕ) → (if is_named_in (drop l.named-index l.named-items) q then specified_as l.spec else sort_under l.table q) ≡
    (if specified_by l.spec q then specified_as l.spec else sort_under l.fn.table q)
