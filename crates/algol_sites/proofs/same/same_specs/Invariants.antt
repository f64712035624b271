use Rattle.std.proofs.Common.{◌≡◌, drop, length}
use Rattle.algol_sites.specs.Same.{specs_agree}
use Rattle.algol_sites.proofs.same.same_specs.Given as goal

abbrev pub invariant-specs : goal.invariant-specs
invariant-specs l = (length l.specs ≡ length l.others) × (specs_agree (drop l.at l.specs) (drop l.at l.others) ≡ specs_agree l.fn.specs l.fn.others)
