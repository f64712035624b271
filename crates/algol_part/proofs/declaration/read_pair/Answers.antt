use Rattle.std.proofs.Common.{[], ◌∷◌, ◌++◌, sym, ap}
use Rattle.algol_expr.proofs.Chain.{past, via, making, rest_of}
use Rattle.algol_expr.proofs.Arms.{started}
use Rattle.b67_list.proofs.Answered.{if_err_left}
use Rattle.algol_part.proofs.Chains.{refusing, failing, added}
use Rattle.algol_tree.specs.DueStmt.{pair_in}
use mir.Val.{SFits}
use Rattle.std.proofs.Common.{w64, rules}
use Rattle.std.proofs.lemmas.Int.{to_z-of_z}
use Rattle.algol_part.proofs.Loops.{pair_as}
use Rattle.algol_tree.specs.Due as due
use Rattle.algol_part.proofs.declaration.read_pair.Goals as goal

pub returns-in_err-low-clause-refused : goal.returns-in_err-low-clause-refused
returns-in_err-low-clause-refused c = if_err_left _ _ _ c.from_residual.ensures.1 (λ xs. refusing (started pair_in (due.pairs xs ∷ []) _) c.in_err-low.ensures.refused)

pub returns-in_err-rest-clause-refused : goal.returns-in_err-rest-clause-refused
returns-in_err-rest-clause-refused c = if_err_left _ _ _ c.from_residual-in_err-rest.ensures.1 (λ xs. failing (via (started pair_in (due.pairs xs ∷ []) _) c.in_ok-low.ensures.found) c.in_err-rest.ensures.fails)

pub returns-in_err-high-clause-refused : goal.returns-in_err-high-clause-refused
returns-in_err-high-clause-refused c = if_err_left _ _ _ c.from_residual-in_err-high.ensures.1 (λ xs. refusing (past (via (started pair_in (due.pairs xs ∷ []) _) c.in_ok-low.ensures.found) c.in_ok-rest.ensures.passes) c.in_err-high.ensures.fails)

pub returns-clause-found : goal.returns-clause-found
returns-clause-found c = let fits : SFits w64 c.in_ok-low.low = search rules in added (λ xs. making (via (past (via (started pair_in (due.pairs xs ∷ []) _) c.in_ok-low.ensures.found) c.in_ok-rest.ensures.passes) c.in_ok-high.ensures.found) (λ vs. ap (λ p. due.pairs (xs ++ p ∷ []) ∷ vs) (sym (pair_as c.pair.ensures (to_z-of_z w64 c.in_ok-low.low fits))))) (rest_of (rest_of (c.in_ok-low.ensures.found.behind) (c.in_ok-rest.ensures.passes.behind)) (c.in_ok-high.ensures.found.behind))
