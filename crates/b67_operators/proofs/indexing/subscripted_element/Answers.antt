use Rattle.std.proofs.Common.{FitsSigned, ◌<◌, ◌^◌, ℤ, unsigned_abs, subst, arith}
use Rattle.std.specs.Int.{w64}
use Rattle.std.proofs.lemmas.Int.{to_z-of_z, fits_signed_from_abs}
use Rattle.b67_reach.specs.Answers.{TestTells}
use Rattle.b67_operators.specs.Arrays.{test_element_at}
use Rattle.b67_operators.proofs.Subscripts.{element_found, element_stops}
use Rattle.b67_operators.proofs.indexing.subscripted_element.Goals as goal

pub returns-in_err-array-clause-value : goal.returns-in_err-array-clause-value
returns-in_err-array-clause-value g c =
    element_stops (g.C.Core.stacks c.args.core.now) (g.C.Core.rows c.args.core.now) c.args.regs.now c.args.mother c.from_residual.result
    c.in_err-array.field-0.0 c.in_err-array.ensures.value c.from_residual.ensures.1

pub returns-clause-value : goal.returns-clause-value
returns-clause-value g c =
    let bound : unsigned_abs c.in_ok-array.subscript < 2 ^ 63 = omega (arith, c.in_ok-array.ensures.small) in
    let fits : FitsSigned w64 c.in_ok-array.subscript = fits_signed_from_abs w64 c.in_ok-array.subscript bound in
    let there = to_z-of_z w64 c.in_ok-array.subscript fits in
    element_found (g.C.Core.stacks c.args.core.now) (g.C.Core.rows c.args.core.now) c.args.regs.now c.args.mother c.element_at.result
    c.in_ok-array.array c.in_ok-array.subscript c.in_ok-array.ensures.value
    (subst (λ (z : ℤ). TestTells (test_element_at c.in_ok-array.array z) (g.C.Core.stacks c.args.core.now) (g.C.Core.rows c.args.core.now) c.element_at.result) there c.element_at.ensures)
