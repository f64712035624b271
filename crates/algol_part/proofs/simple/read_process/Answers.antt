use Rattle.std.proofs.Common.{[], ◌∷◌, refl, ap}
use Rattle.algol_expr.proofs.Chain.{via, completing, making}
use Rattle.algol_expr.proofs.Arms.{started}
use Rattle.b67_list.proofs.Answered.{if_err_left}
use Rattle.algol_part.proofs.Chains.{refusing, brought, rest_on}
use Rattle.algol_tree.specs.DueStmt.{processing}
use Rattle.algol_tree.specs.Due as due
use Rattle.algol_part.proofs.simple.read_process.Goals as goal

pub returns-in_err-name-clause-refused : goal.returns-in_err-name-clause-refused
returns-in_err-name-clause-refused c = if_err_left _ _ _ c.from_residual.ensures.1 (refusing (started (due.named ∷ due.actuals_part ∷ due.task_part ∷ due.make processing ∷ []) [] _) c.in_err-name.ensures.refused)

pub returns-in_err-actuals-clause-refused : goal.returns-in_err-actuals-clause-refused
returns-in_err-actuals-clause-refused c = if_err_left _ _ _ c.from_residual-in_err-actuals.ensures.1 (refusing (via (started (due.named ∷ due.actuals_part ∷ due.task_part ∷ due.make processing ∷ []) [] _) c.in_ok-name.ensures.found) c.in_err-actuals.ensures.refused)

pub returns-in_err-task-clause-refused : goal.returns-in_err-task-clause-refused
returns-in_err-task-clause-refused c = if_err_left _ _ _ c.from_residual-in_err-task.ensures.1 (refusing (completing (via (started (due.named ∷ due.actuals_part ∷ due.task_part ∷ due.make processing ∷ []) [] _) c.in_ok-name.ensures.found) c.in_ok-actuals.ensures.found) c.in_err-task.ensures.refused)

pub returns-clause-found : goal.returns-clause-found
returns-clause-found c = brought (making (completing (completing (via (started (due.named ∷ due.actuals_part ∷ due.task_part ∷ due.make processing ∷ []) [] _) c.in_ok-name.ensures.found) c.in_ok-actuals.ensures.found) c.in_ok-task.ensures.found) (λ vs. refl)) (ap due.stmt c.process.ensures) (rest_on (rest_on (c.in_ok-name.ensures.found.behind) c.in_ok-actuals.ensures.found.ended c.in_ok-actuals.ensures.found.no_longer) c.in_ok-task.ensures.found.ended c.in_ok-task.ensures.found.no_longer)
