use Rattle.std.proofs.Common.{[], ◌∷◌, refl, ap}
use Rattle.algol_expr.proofs.Chain.{via, making, rest_of}
use Rattle.algol_expr.proofs.Arms.{started}
use Rattle.b67_list.proofs.Answered.{if_err_left}
use Rattle.algol_part.proofs.Chains.{bringing, listed, refusing, refusing_all}
use Rattle.algol_part.specs.Phrases.{format_in}
use Rattle.algol_tree.specs.Due as due
use Rattle.algol_part.proofs.line.read_format.Goals as goal

pub returns-in_err-spot-clause-refused : goal.returns-in_err-spot-clause-refused
returns-in_err-spot-clause-refused c = if_err_left _ _ _ c.from_residual.ensures.1 (refusing (started format_in (due.name_is c.args.file ∷ []) _) c.in_err-spot.ensures.refused)

pub returns-in_err-phrases-clause-refused : goal.returns-in_err-phrases-clause-refused
returns-in_err-phrases-clause-refused c = if_err_left _ _ _ c.from_residual-in_err-phrases.ensures.1 (refusing_all _ (via (started format_in (due.name_is c.args.file ∷ []) _) c.in_ok-spot.ensures.found) c.in_err-phrases.ensures.refused)

pub returns-in_err-items-clause-refused : goal.returns-in_err-items-clause-refused
returns-in_err-items-clause-refused c = if_err_left _ _ _ c.from_residual-in_err-items.ensures.1 (refusing_all _ (bringing (via (started format_in (due.name_is c.args.file ∷ []) _) c.in_ok-spot.ensures.found) c.in_ok-phrases.ensures.found) c.in_err-items.ensures.refused)

pub returns-clause-found : goal.returns-clause-found
returns-clause-found c = listed (making (bringing (bringing (via (started format_in (due.name_is c.args.file ∷ []) _) c.in_ok-spot.ensures.found) c.in_ok-phrases.ensures.found) c.in_ok-items.ensures.found) (λ vs. refl)) (ap due.stmt c.writing.ensures) (rest_of (rest_of c.in_ok-spot.ensures.found.behind c.in_ok-phrases.ensures.found.behind) c.in_ok-items.ensures.found.behind)
