use Rattle.std.proofs.Common.{[], arith}
use Rattle.algol_expr.proofs.Arms.{started}
use Rattle.algol_expr.proofs.Chain.{rest_of}
use Rattle.b67_list.proofs.Answered.{if_err_left}
use Rattle.algol_part.proofs.Chains.{bringing, refusing_all}
use Rattle.algol_part.specs.Openings.{behind_for}
use Rattle.algol_part.proofs.Openings.{comes}
use Rattle.algol_part.proofs.opening.read_range.Goals as goal

pub returns-in_err-name-clause-refused : goal.returns-in_err-name-clause-refused
returns-in_err-name-clause-refused c = if_err_left _ _ _ c.from_residual.ensures.1 (λ i. refusing_all _ (started (behind_for i) [] _) c.in_err-name.ensures.refused)

pub returns-in_err-from-clause-refused : goal.returns-in_err-from-clause-refused
returns-in_err-from-clause-refused c = if_err_left _ _ _ c.from_residual-in_err-from.ensures.1 (λ i. refusing_all _ (bringing (started (behind_for i) [] _) c.in_ok-name.ensures.found) c.in_err-from.ensures.refused)

pub returns-in_err-step-clause-refused : goal.returns-in_err-step-clause-refused
returns-in_err-step-clause-refused c = if_err_left _ _ _ c.from_residual-in_err-step.ensures.1 (λ i. refusing_all _ (bringing (bringing (started (behind_for i) [] _) c.in_ok-name.ensures.found) c.in_ok-from.ensures.found) c.in_err-step.ensures.refused)

pub returns-in_err-limit-clause-refused : goal.returns-in_err-limit-clause-refused
returns-in_err-limit-clause-refused c = if_err_left _ _ _ c.from_residual-in_err-limit.ensures.1 (λ i. refusing_all _ (bringing (bringing (bringing (started (behind_for i) [] _) c.in_ok-name.ensures.found) c.in_ok-from.ensures.found) c.in_ok-step.ensures.found) c.in_err-limit.ensures.refused)

pub returns-clause-found : goal.returns-clause-found
returns-clause-found c = let b = rest_of (rest_of (rest_of c.in_ok-name.ensures.found.behind c.in_ok-from.ensures.found.behind) c.in_ok-step.ensures.found.behind) c.in_ok-limit.ensures.found.behind in λ i. comes (bringing (bringing (bringing (bringing (started (behind_for i) [] _) c.in_ok-name.ensures.found) c.in_ok-from.ensures.found) c.in_ok-step.ensures.found) c.in_ok-limit.ensures.found) b.ended (omega (arith, b.shorter))
