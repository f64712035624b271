use Rattle.std.proofs.Common.{◌∙◌, ap, length}
use Rattle.algol_tree.specs.Accepted.{noted_all}
use Rattle.algol_sites.specs.Expressing.{miscounted_actuals, noted_call}
use Rattle.algol_sites.proofs.expression.called.Goals as goal

pub returns : goal.returns
returns c = λ a t.
    c.count_actuals.ensures a t
    ∙ ap (λ o. noted_all o (miscounted_actuals c.args.c.now.name (length c.exprs_in.result.now) a)) (c.want_name.ensures a t)
    ∙ ap (λ m. noted_call c.args.faults.now.first c.args.wanted c.args.c.now.name m a) (ap (λ es. length es) c.exprs_in.ensures)
