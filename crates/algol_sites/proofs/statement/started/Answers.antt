use Rattle.std.proofs.Common.{◌∙◌, ap, length}
use Rattle.algol_tree.specs.Accepted.{noted_all}
use Rattle.algol_sites.specs.Expressing.{miscounted_actuals}
use Rattle.algol_sites.specs.Stating.{noted_process, unfit_task}
use Rattle.algol_sites.proofs.statement.started.Goals as goal

pub returns : goal.returns
returns c = λ a n t.
    c.count_actuals.ensures a n
    ∙ ap (λ o. noted_all o (miscounted_actuals c.args.c.now.name (length c.exprs_in.result.now) a))
    (c.want_task.ensures a t ∙ ap (λ o. noted_all o (unfit_task c.args.task.now a)) (c.want_name.ensures a n))
    ∙ ap (λ m. noted_process c.args.faults.now.first c.args.c.now.name c.args.task.now m a) (ap (λ es. length es) c.exprs_in.ensures)
