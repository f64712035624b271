use Rattle.std.proofs.Common.{[], ◌∷◌, refl}
use Rattle.algol_expr.proofs.Chain.{past, making, rest_of}
use Rattle.algol_expr.proofs.Arms.{started}
use Rattle.b67_list.proofs.Answered.{if_err_left}
use Rattle.algol_part.proofs.Chains.{bringing, failing, refusing_all, listed, rest_on}
use Rattle.algol_part.proofs.Openings.{coming}
use Rattle.algol_part.specs.Phrases.{parameters_in_phrase}
use Rattle.algol_tree.specs.Due as due
use Rattle.algol_part.proofs.heading.read_parameters.Goals as goal

pub returns-in_err-params-clause-refused : goal.returns-in_err-params-clause-refused
returns-in_err-params-clause-refused c = if_err_left _ _ _ c.from_residual.ensures.1 (refusing_all _ (started (parameters_in_phrase c.args.kind) (due.name_is c.args.name ∷ []) _) c.in_err-params.ensures.refused)

pub returns-in_err-rest-clause-refused : goal.returns-in_err-rest-clause-refused
returns-in_err-rest-clause-refused c = if_err_left _ _ _ c.from_residual-in_err-rest.ensures.1 (failing (bringing (started (parameters_in_phrase c.args.kind) (due.name_is c.args.name ∷ []) _) c.in_ok-params.ensures.found) c.in_err-rest.ensures.fails)

pub returns-in_err-parts-clause-refused : goal.returns-in_err-parts-clause-refused
returns-in_err-parts-clause-refused c = if_err_left _ _ _ c.from_residual-in_err-parts.ensures.1 (refusing_all _ (past (bringing (started (parameters_in_phrase c.args.kind) (due.name_is c.args.name ∷ []) _) c.in_ok-params.ensures.found) c.in_ok-rest.ensures.passes) c.in_err-parts.ensures.refused)

pub returns-clause-found : goal.returns-clause-found
returns-clause-found c = listed (making (coming (past (bringing (started (parameters_in_phrase c.args.kind) (due.name_is c.args.name ∷ []) _) c.in_ok-params.ensures.found) c.in_ok-rest.ensures.passes) c.in_ok-parts.ensures.found) (λ vs. refl)) refl (rest_on (rest_of c.in_ok-params.ensures.found.behind c.in_ok-rest.ensures.passes.behind) c.in_ok-parts.ensures.found.ended c.in_ok-parts.ensures.found.no_longer)
