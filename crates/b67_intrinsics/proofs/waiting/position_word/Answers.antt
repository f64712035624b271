use Rattle.std.proofs.Common.{◌≤◌, sym, ap, subst, ◌∙◌, ℤ, unsigned_abs, arith}
use Rattle.b67_word.specs.Word.{operand, most_mantissa}
use Rattle.b67_intrinsics.proofs.Cases.{back}
use Rattle.b67_intrinsics.proofs.waiting.position_word.Goals as goal

pub returns : goal.returns
returns c =
    let small = subst (λ (z : ℤ). unsigned_abs z ≤ most_mantissa) (sym c.from.ensures) (omega (arith, c.ranges.position.fits)) in
    c.operand.ensures ∙ ap operand (back c.from.result small ∙ c.from.ensures)
