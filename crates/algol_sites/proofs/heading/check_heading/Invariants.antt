use Rattle.std.proofs.Common.{◌≡◌, drop}
use Rattle.algol_tree.specs.Accepted.{noted_all}
use Rattle.algol_sites.specs.Headings.{missing, referring}
use Rattle.algol_sites.proofs.heading.check_heading.Given as goal

abbrev pub invariant-parameters : goal.invariant-parameters
invariant-parameters l =
    noted_all l.faults.first (missing l.heading.specs (drop l.named-index l.named-items)) ≡ noted_all l.initial.faults.first (missing l.heading.specs l.heading.params)

abbrev pub invariant-values : goal.invariant-values
invariant-values l =
    noted_all l.faults.first (referring l.heading.specs (drop l.named-index l.named-items)) ≡ noted_all l.initial.faults.first (referring l.heading.specs l.heading.values)
