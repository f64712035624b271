use Rattle.std.proofs.Common.{drop}
use Rattle.algol_tree.specs.Classes as classes
use Rattle.algol_tree.specs.Sorts.{Sort}
use Rattle.algol_known.specs.Widening.{SortStandsFor, Widens, declaring}
use Rattle.algol_known.proofs.around.Around.declare_all.Given as goal

abbrev pub invariant-names : goal.invariant-names
invariant-names l = (sort : Sort) (c : classes.Class) → SortStandsFor l.fn.sort sort c → Widens l.fn.self l.self (declaring sort c (drop l.at l.ns))
