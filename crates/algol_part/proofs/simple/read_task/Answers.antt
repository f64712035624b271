use Rattle.std.proofs.Common.{[], ◌∷◌, refl, sym, ◌∙◌, arith}
use Rattle.algol_expr.proofs.Chain.{past, via, making, completes_done, rest_of}
use Rattle.b67_list.proofs.Answered.{if_err_left}
use Rattle.algol_part.proofs.Chains.{refusing, failing, takes_it, makes_it, behind_symbol}
use Rattle.algol_tree.specs.Due.{task_part}
use Rattle.std.proofs.Common.{Some}
use Rattle.algol_part.proofs.Firsts.{task_on, task_off}
use Rattle.algol_tree.specs.declared.token.Symbol.TheVariants as symbols
use Rattle.algol_tree.specs.Due as due
use Rattle.algol_part.proofs.simple.read_task.Goals as goal

pub returns-in_err-task-clause-refused : goal.returns-in_err-task-clause-refused
returns-in_err-task-clause-refused c = if_err_left _ _ _ c.from_residual.ensures.1 (refusing (takes_it c.first_of.ensures task_part _ {ds = []} {us = []} (task_on c.first_of.ensures (sym c.is_symbol.ensures ∙ c.if-is_symbol.true))) c.in_err-task.ensures.refused)

pub returns-in_err-rest-clause-refused : goal.returns-in_err-rest-clause-refused
returns-in_err-rest-clause-refused c = if_err_left _ _ _ c.from_residual-in_err-rest.ensures.1 (failing {ws = due.task (Some _) ∷ []} (making (via (takes_it c.first_of.ensures task_part _ {ds = []} {us = []} (task_on c.first_of.ensures (sym c.is_symbol.ensures ∙ c.if-is_symbol.true))) c.in_ok-task.ensures.found) (λ vs. refl)) c.in_err-rest.ensures.fails)

pub returns-in_ok-rest-clause-found : goal.returns-in_ok-rest-clause-found
returns-in_ok-rest-clause-found c = let b = rest_of (rest_of (behind_symbol c.first_of.ensures symbols.OpenSquare c.requires.ended (sym c.is_symbol.ensures ∙ c.if-is_symbol.true)) (c.in_ok-task.ensures.found.behind)) (c.in_ok-rest.ensures.passes.behind) in completes_done (past {ws = due.task (Some _) ∷ []} (making (via (takes_it c.first_of.ensures task_part _ {ds = []} {us = []} (task_on c.first_of.ensures (sym c.is_symbol.ensures ∙ c.if-is_symbol.true))) c.in_ok-task.ensures.found) (λ vs. refl)) c.in_ok-rest.ensures.passes) refl b.ended (omega (arith, b.shorter))

pub returns-else-is_symbol-clause-found : goal.returns-else-is_symbol-clause-found
returns-else-is_symbol-clause-found c = completes_done (making (makes_it c.first_of.ensures task_part _ {ds = []} {us = []} (task_off c.first_of.ensures (sym c.is_symbol.ensures ∙ c.if-is_symbol.false))) (λ vs. refl)) refl c.requires.ended (omega arith)
