use Rattle.std.proofs.Common.{◌≡◌, drop, length}
use Rattle.algol_sites.specs.Same.{names_agree}
use Rattle.algol_sites.proofs.same.same_names.Given as goal

abbrev pub invariant-names : goal.invariant-names
invariant-names l = (length l.ns ≡ length l.ms) × (names_agree (drop l.at l.ns) (drop l.at l.ms) ≡ names_agree l.fn.ns l.fn.ms)
