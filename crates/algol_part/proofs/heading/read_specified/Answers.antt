use Rattle.std.proofs.Common.{[], arith}
use Rattle.algol_expr.proofs.Chain.{completing}
use Rattle.algol_expr.proofs.Arms.{started}
use Rattle.b67_list.proofs.Answered.{if_err_left}
use Rattle.algol_part.proofs.Chains.{bringing, refusing, refusing_all, rest_within}
use Rattle.algol_part.proofs.Openings.{comes}
use Rattle.algol_part.specs.Phrases.{specified_in}
use Rattle.algol_part.proofs.heading.read_specified.Goals as goal

pub returns-in_err-values-clause-refused : goal.returns-in_err-values-clause-refused
returns-in_err-values-clause-refused c = if_err_left _ _ _ c.from_residual.ensures.1 (refusing (started specified_in [] _) c.in_err-values.ensures.refused)

pub returns-in_err-specs-clause-refused : goal.returns-in_err-specs-clause-refused
returns-in_err-specs-clause-refused c = if_err_left _ _ _ c.from_residual-in_err-specs.ensures.1 (refusing_all [] (completing (started specified_in [] _) c.in_ok-values.ensures.found) c.in_err-specs.ensures.refused)

pub returns-clause-found : goal.returns-clause-found
returns-clause-found c = let b = rest_within c.in_ok-values.ensures.found.no_longer c.in_ok-specs.ensures.found.behind in comes (bringing {ds = []} (completing (started specified_in [] _) c.in_ok-values.ensures.found) c.in_ok-specs.ensures.found) b.ended (omega (arith, b.shorter))
