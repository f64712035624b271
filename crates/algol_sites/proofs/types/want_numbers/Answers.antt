use Rattle.std.proofs.Common.{◌∙◌}
use Rattle.std.proofs.lemmas.List.{drop_all}
use Rattle.algol_sites.proofs.Actuals.{each_split, numbers_end, numbers_step}
use Rattle.algol_sites.proofs.types.want_numbers.Goals as goal

pub expressions-preserved : goal.expressions-preserved
expressions-preserved c = λ a t.
    let inv = c.expressions.invariant a t in
    let told = each_split c.args.scopes.now a c.args.es.now c.expressions.e-index c.e-item.result c.expressions-test.true c.e-item.is inv.1 in (
      numbers_step c.args.es.now c.expressions.e-index c.e-item.result a c.expressions.faults.first c.want.new.faults.first c.expressions-test.true c.e-item.is
          (c.want.ensures a told.0) ∙ inv.0,
      told.1,
    )

pub returns : goal.returns
returns c = λ a t.
    numbers_end c.args.es.now c.expressions.e-index a c.expressions.faults.first _ (drop_all c.expressions.e-index c.args.es.now c.expressions-test.false)
    (c.expressions.invariant a t).0
