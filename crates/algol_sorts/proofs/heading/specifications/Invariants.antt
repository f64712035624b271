use Rattle.std.proofs.Common.{drop}
use Rattle.algol_sorts.specs.Specified.{Specifies}
use Rattle.algol_sorts.proofs.heading.specifications.Given as goal

abbrev pub invariant-specs : goal.invariant-specs
invariant-specs l = Specifies l.table (drop l.at l.specs)
