use Rattle.std.proofs.Common.{[], ◌∷◌, sym, ap}
use Rattle.algol_expr.proofs.Chain.{past, making, rest_of}
use Rattle.algol_expr.proofs.Arms.{started}
use Rattle.b67_list.proofs.Answered.{if_err_left}
use Rattle.algol_part.proofs.Chains.{bringing, failing, refusing_all, added}
use Rattle.algol_part.specs.Phrases.{one_segment}
use Rattle.algol_tree.specs.DueStmt.{decl_behind}
use Rattle.algol_tree.specs.Due as due
use Rattle.algol_part.proofs.declaration.read_segment.Goals as goal

pub returns-in_err-names-clause-refused : goal.returns-in_err-names-clause-refused
returns-in_err-names-clause-refused c = if_err_left _ _ _ c.from_residual.ensures.1 (λ xs. refusing_all _ (started (one_segment c.args.kind) (due.declared xs ∷ []) _) c.in_err-names.ensures.refused)

pub returns-in_err-pairs-clause-refused : goal.returns-in_err-pairs-clause-refused
returns-in_err-pairs-clause-refused c = if_err_left _ _ _ c.from_residual-in_err-pairs.ensures.1 (λ xs. refusing_all _ (bringing (started (one_segment c.args.kind) (due.declared xs ∷ []) _) c.in_ok-names.ensures.found) c.in_err-pairs.ensures.refused)

pub returns-in_err-rest-clause-refused : goal.returns-in_err-rest-clause-refused
returns-in_err-rest-clause-refused c = if_err_left _ _ _ c.from_residual-in_err-rest.ensures.1 (λ xs. failing (bringing (bringing (started (one_segment c.args.kind) (due.declared xs ∷ []) _) c.in_ok-names.ensures.found) c.in_ok-pairs.ensures.found) c.in_err-rest.ensures.fails)

pub returns-clause-found : goal.returns-clause-found
returns-clause-found c = added (λ xs. making (past (bringing (bringing (started (one_segment c.args.kind) (due.declared xs ∷ []) _) c.in_ok-names.ensures.found) c.in_ok-pairs.ensures.found) c.in_ok-rest.ensures.passes) (λ vs. ap (λ d. due.declared (decl_behind xs d) ∷ vs) (sym c.arrays.ensures))) (rest_of (rest_of c.in_ok-names.ensures.found.behind c.in_ok-pairs.ensures.found.behind) c.in_ok-rest.ensures.passes.behind)
