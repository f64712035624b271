use Rattle.std.proofs.Common.{[], ◌∷◌, refl, ap}
use Rattle.algol_expr.proofs.Chain.{via, making}
use Rattle.algol_expr.proofs.Arms.{started}
use Rattle.b67_list.proofs.Answered.{if_err_left}
use Rattle.algol_part.proofs.Chains.{skipping, refusing, brought, rest_within}
use Rattle.algol_tree.specs.DueStmt.{going}
use Rattle.algol_tree.specs.Due as due
use Rattle.algol_part.proofs.simple.read_go.Goals as goal

pub returns-in_err-label-clause-refused : goal.returns-in_err-label-clause-refused
returns-in_err-label-clause-refused c = if_err_left _ _ _ c.from_residual.ensures.1 (refusing (skipping (started (due.to_part ∷ due.named ∷ due.make going ∷ []) [] _) c.behind_to.ensures) c.in_err-label.ensures.refused)

pub returns-clause-found : goal.returns-clause-found
returns-clause-found c = brought (making (via (skipping (started (due.to_part ∷ due.named ∷ due.make going ∷ []) [] _) c.behind_to.ensures) c.in_ok-label.ensures.found) (λ vs. refl)) (ap due.stmt c.going.ensures) (rest_within c.behind_to.ensures.no_longer c.in_ok-label.ensures.found.behind)
