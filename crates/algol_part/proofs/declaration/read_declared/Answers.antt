use Rattle.std.proofs.Common.{[], ◌∷◌, refl, sym, ap, ◌∙◌}
use Rattle.algol_expr.proofs.Chain.{past, making, rest_of}
use Rattle.algol_expr.proofs.Arms.{started}
use Rattle.b67_list.proofs.Answered.{if_err_left}
use Rattle.algol_part.proofs.Chains.{bringing, failing, refusing_all, listed, valued}
use Rattle.algol_part.proofs.Loops.{one_decl}
use Rattle.algol_part.specs.Phrases.{listed_in, declares}
use Rattle.algol_tree.specs.DueStmt.{decl_behind}
use Rattle.algol_tree.specs.Due.{declared}
use Rattle.algol_part.proofs.declaration.read_declared.Goals as goal

pub returns-in_err-names-clause-refused : goal.returns-in_err-names-clause-refused
returns-in_err-names-clause-refused c = if_err_left _ _ _ c.from_residual.ensures.1 (refusing_all _ (started (listed_in c.args.listed) (declared _ ∷ []) _) c.in_err-names.ensures.refused)

pub returns-in_err-rest-clause-refused : goal.returns-in_err-rest-clause-refused
returns-in_err-rest-clause-refused c = if_err_left _ _ _ c.from_residual-in_err-rest.ensures.1 (failing {ws = declared (decl_behind _ (declares c.args.listed _)) ∷ []} (making {xs = declared (decl_behind _ (declares c.args.listed _)) ∷ []} (bringing (started (listed_in c.args.listed) (declared _ ∷ []) _) c.in_ok-names.ensures.found) (λ vs. refl)) c.in_err-rest.ensures.fails)

pub returns-clause-found : goal.returns-clause-found
returns-clause-found c = listed (valued {ws = []} (past {ws = declared (decl_behind _ (declares c.args.listed _)) ∷ []} (making {xs = declared (decl_behind _ (declares c.args.listed _)) ∷ []} (bringing (started (listed_in c.args.listed) (declared _ ∷ []) _) c.in_ok-names.ensures.found) (λ vs. refl)) c.in_ok-rest.ensures.passes) (ap declared (sym (ap (decl_behind _) (sym c.listing.ensures) ∙ one_decl _ _ _ c.in_ok-push.ensures.items)))) refl (rest_of c.in_ok-names.ensures.found.behind c.in_ok-rest.ensures.passes.behind)
