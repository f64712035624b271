use Rattle.std.proofs.Common.{[], ◌∷◌, refl}
use Rattle.algol_expr.proofs.Chain.{past, making, rest_of}
use Rattle.algol_expr.proofs.Arms.{started}
use Rattle.b67_list.proofs.Answered.{if_err_left}
use Rattle.algol_part.proofs.Chains.{bringing, failing, refusing_all, added}
use Rattle.algol_tree.specs.DueDecl.{rows_specified}
use Rattle.algol_tree.specs.Due as due
use Rattle.algol_part.proofs.heading.read_array_spec.Goals as goal

pub returns-in_err-names-clause-refused : goal.returns-in_err-names-clause-refused
returns-in_err-names-clause-refused c = if_err_left _ _ _ c.from_residual.ensures.1 (λ xs. refusing_all _ (started (rows_specified c.args.kind) (due.specified xs ∷ []) _) c.in_err-names.ensures.refused)

pub returns-in_err-lows-clause-refused : goal.returns-in_err-lows-clause-refused
returns-in_err-lows-clause-refused c = if_err_left _ _ _ c.from_residual-in_err-lows.ensures.1 (λ xs. refusing_all _ (bringing (started (rows_specified c.args.kind) (due.specified xs ∷ []) _) c.in_ok-names.ensures.found) c.in_err-lows.ensures.refused)

pub returns-in_err-rest-clause-refused : goal.returns-in_err-rest-clause-refused
returns-in_err-rest-clause-refused c = if_err_left _ _ _ c.from_residual-in_err-rest.ensures.1 (λ xs. failing (bringing (bringing (started (rows_specified c.args.kind) (due.specified xs ∷ []) _) c.in_ok-names.ensures.found) c.in_ok-lows.ensures.found) c.in_err-rest.ensures.fails)

pub returns-in_err-rest-2-clause-refused : goal.returns-in_err-rest-2-clause-refused
returns-in_err-rest-2-clause-refused c = if_err_left _ _ _ c.from_residual-in_err-rest-2.ensures.1 (λ xs. failing (past (bringing (bringing (started (rows_specified c.args.kind) (due.specified xs ∷ []) _) c.in_ok-names.ensures.found) c.in_ok-lows.ensures.found) c.in_ok-rest.ensures.passes) c.in_err-rest-2.ensures.fails)

pub returns-clause-found : goal.returns-clause-found
returns-clause-found c = added (λ xs. making (past (past (bringing (bringing (started (rows_specified c.args.kind) (due.specified xs ∷ []) _) c.in_ok-names.ensures.found) c.in_ok-lows.ensures.found) c.in_ok-rest.ensures.passes) c.in_ok-rest-2.ensures.passes) (λ vs. refl)) (rest_of (rest_of (rest_of c.in_ok-names.ensures.found.behind c.in_ok-lows.ensures.found.behind) c.in_ok-rest.ensures.passes.behind) c.in_ok-rest-2.ensures.passes.behind)
