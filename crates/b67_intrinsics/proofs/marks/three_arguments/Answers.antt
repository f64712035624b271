use Rattle.std.proofs.Common.{◌<◌, ◌∙◌, length, ap, Err, arith}
use Rattle.std.proofs.lemmas.Result.{err_from_is_err_and}
use Rattle.b67_reach.specs.declared.Stop.{Stop}
use Rattle.b67_intrinsics.specs.Called.{arguments}
use Rattle.b67_intrinsics.proofs.Calling.{not_three, three_stop}
use Rattle.b67_intrinsics.proofs.marks.three_arguments.Goals as goal

pub returns-then-arguments-ne3-clause-value : goal.returns-then-arguments-ne3-clause-value
returns-then-arguments-ne3-clause-value g c =
    let st = g.C.Core.stacks c.args.core.now in
    ap Err c.invalid.ensures ∙ not_three st (arguments st c.args.regs.now) (λ h. c.if-arguments-ne3.true (c.arguments.ensures ∙ h))

pub returns-in_err-x-clause-value : goal.returns-in_err-x-clause-value
returns-in_err-x-clause-value g c =
    let st = g.C.Core.stacks c.args.core.now in
    let words = arguments st c.args.regs.now in
    let p = err_from_is_err_and c.from_residual.result c.from_residual.ensures.1 in
    let within : 0 < length words = omega (arith, c.if-arguments-ne3.false, c.arguments.ensures) in
    p.1 ∙ ap (λ (s : Stop). Err s) p.2 ∙ three_stop st words 0 c.in_err-x.field-0.0 within c.in_err-x.ensures.value

pub returns-in_err-y-clause-value : goal.returns-in_err-y-clause-value
returns-in_err-y-clause-value g c =
    let st = g.C.Core.stacks c.args.core.now in
    let words = arguments st c.args.regs.now in
    let p = err_from_is_err_and c.from_residual-in_err-y.result c.from_residual-in_err-y.ensures.1 in
    let within : 1 < length words = omega (arith, c.if-arguments-ne3.false, c.arguments.ensures) in
    p.1 ∙ ap (λ (s : Stop). Err s) p.2 ∙ three_stop st words 1 c.in_err-y.field-0.0 within c.in_err-y.ensures.value

pub returns-in_err-z-clause-value : goal.returns-in_err-z-clause-value
returns-in_err-z-clause-value g c =
    let st = g.C.Core.stacks c.args.core.now in
    let words = arguments st c.args.regs.now in
    let p = err_from_is_err_and c.from_residual-in_err-z.result c.from_residual-in_err-z.ensures.1 in
    let within : 2 < length words = omega (arith, c.if-arguments-ne3.false, c.arguments.ensures) in
    p.1 ∙ ap (λ (s : Stop). Err s) p.2 ∙ three_stop st words 2 c.in_err-z.field-0.0 within c.in_err-z.ensures.value
