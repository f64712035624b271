use Rattle.std.proofs.Common.{sym, ap, ◌∙◌, Err}
use Rattle.std.proofs.lemmas.Result.{err_from_is_err_and}
use Rattle.b67_reach.specs.declared.Stop.{Stop}
use Rattle.b67_operators.proofs.Subscripts.{array_is, array_reached, array_stops}
use Rattle.b67_operators.proofs.indexing.array_of.Goals as goal

pub returns-in-None-clause-value : goal.returns-in-None-clause-value
returns-in-None-clause-value g c =
    array_is (g.C.Core.stacks c.args.core.now) c.args.regs.now c.args.mother c.args.word c.array_in-in-None.result (sym c.in-None.is ∙ c.cell_of.ensures.value)
    c.array_in-in-None.ensures.value

pub returns-in_ok-found-in-Some-clause-value : goal.returns-in_ok-found-in-Some-clause-value
returns-in_ok-found-in-Some-clause-value g c =
    array_reached (g.C.Core.stacks c.args.core.now) c.args.regs.now c.args.mother c.args.word c.in-Some.cell c.in_ok-found-in-Some.found c.array_in.result
    (sym c.in-Some.is ∙ c.cell_of.ensures.value) c.in_ok-found-in-Some.ensures.value c.array_in.ensures.value

pub returns-in_err-found-in-Some-clause-value : goal.returns-in_err-found-in-Some-clause-value
returns-in_err-found-in-Some-clause-value g c =
    let p = err_from_is_err_and c.from_residual.result c.from_residual.ensures.1 in
    p.1 ∙ ap (λ (s : Stop). Err s) p.2
    ∙ array_stops (g.C.Core.stacks c.args.core.now) c.args.regs.now c.args.mother c.args.word c.in-Some.cell c.in_err-found-in-Some.field-0.0
    (sym c.in-Some.is ∙ c.cell_of.ensures.value) c.in_err-found-in-Some.ensures.value
