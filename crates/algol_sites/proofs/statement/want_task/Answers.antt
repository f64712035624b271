use Rattle.std.proofs.Common.{◌∙◌, ap, sym, subst}
use Rattle.algol_tree.specs.Accepted.{noted_all}
use Rattle.algol_sites.specs.Seeing.{TellsTask}
use Rattle.algol_sites.specs.Stating.{unfit_task}
use Rattle.algol_sites.proofs.statement.want_task.Goals as goal

pub returns-in-None : goal.returns-in-None
returns-in-None c = λ a t. sym (ap (λ w. noted_all c.args.faults.now.first (unfit_task w a)) c.in-None.is)

pub returns-in-Some : goal.returns-in-Some
returns-in-Some c = λ a t.
    c.want_name.ensures a (subst (TellsTask c.args.scopes.now a) c.in-Some.is t)
    ∙ sym (ap (λ w. noted_all c.args.faults.now.first (unfit_task w a)) c.in-Some.is)
