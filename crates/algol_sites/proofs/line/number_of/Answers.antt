use Rattle.std.proofs.Common.{◌≡◌, ◌+◌, ◌*◌, ◌∙◌, arith}
use Rattle.algol_sites.specs.Lining.{capped}
use Rattle.algol_sites.proofs.Lines.{digits_step}
use Rattle.algol_sites.proofs.line.number_of.Goals as goal

pub digits-preserved : goal.digits-preserved
digits-preserved c =
    let next : c.saturating_add-number.result ≡ capped (capped (c.digits.number * 10) + c.in-Some.digit) = omega arith in
    let step = digits_step c.args.digits.now c.digits.byte-index c.digits.number c.in-Some.digit c.saturating_add-number.result c.digits-test.true c.in-Some.ensures next in
    (step.0 ∙ c.digits.invariant.0, step.1 ∙ c.digits.invariant.1, omega arith)
