use Rattle.std.proofs.Common.{arith, ◌∙◌, ℕ, ap, length, nat_lt, pos, ◌≤ℤ◌}
use Rattle.std.proofs.lemmas.Int.{ints, to_z-of_z}
use Rattle.algol_step.proofs.Cases.{exists_within}
use Rattle.algol_step.proofs.entering.nth_exists.Goals as goal

pub returns-then-number-ge0 : goal.returns-then-number-ge0
returns-then-number-ge0 c =
    let fits = c.ranges.number in
    let from : pos 0 ≤ℤ c.args.number = omega (arith, ints) in
    let d = simp to_z-of_z at c.unsigned_abs.ensures.value in
    ap (λ (n : ℕ). nat_lt n (length c.args.ss.now)) d ∙ exists_within c.args.number c.args.ss.now from
