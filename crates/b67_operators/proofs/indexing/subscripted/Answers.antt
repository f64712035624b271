use Rattle.std.proofs.Common.{sym, ap, ◌∙◌, Err}
use Rattle.std.proofs.lemmas.Result.{err_from_is_err_and}
use Rattle.b67_reach.specs.declared.Stop.{Stop}
use Rattle.b67_operators.proofs.Subscripts.{subscripted_stops}
use Rattle.b67_operators.proofs.indexing.subscripted.Goals as goal

pub returns-in_err-array-clause-value : goal.returns-in_err-array-clause-value
returns-in_err-array-clause-value g c =
    let p = err_from_is_err_and c.from_residual-in_err-array.result c.from_residual-in_err-array.ensures.1 in
    p.1 ∙ ap (λ (s : Stop). Err s) p.2
    ∙ subscripted_stops (g.C.Core.stacks c.args.core.now) c.args.regs.now c.args.mother c.in_ok-x.x c.in_ok-x.y c.in-Some.subscript c.in_ok-x.ensures.value
    (sym c.as_whole.ensures.value ∙ c.in-Some.is) c.in_err-array.field-0.0 c.in_err-array.ensures.value
