use Rattle.std.proofs.Common.{refl, sym, ◌∙◌, arith}
use Rattle.b67_list.proofs.Answered.{if_err_left}
use Rattle.algol_expr.proofs.Chain.{failing, past, making, completes_done, rest_first}
use Rattle.algol_expr.proofs.Starts.{period_starts, event_alone}
use Rattle.algol_expr.proofs.event.read_behind_event.Goals as goal

pub returns-in_err-rest-clause-refused : goal.returns-in_err-rest-clause-refused
returns-in_err-rest-clause-refused c = if_err_left _ _ _ c.from_residual.ensures.1
    (failing (period_starts _ _ _ _ c.first_of.ensures (sym c.is_symbol.ensures ∙ c.if-is_symbol.true)) c.in_err-rest.ensures.fails)

pub returns-in_ok-rest-clause-found : goal.returns-in_ok-rest-clause-found
returns-in_ok-rest-clause-found c = completes_done
    (making (past (period_starts _ _ _ _ c.first_of.ensures (sym c.is_symbol.ensures ∙ c.if-is_symbol.true)) c.in_ok-rest.ensures.passes) (λ vs. refl)) refl
    c.in_ok-rest.ensures.passes.behind.ended (omega (arith, (rest_first c.first_of.ensures c.in_ok-rest.ensures.passes.behind).shorter))

pub returns-else-is_symbol-clause-found : goal.returns-else-is_symbol-clause-found
returns-else-is_symbol-clause-found c = completes_done (event_alone _ _ _ _ c.first_of.ensures (sym c.is_symbol.ensures ∙ c.if-is_symbol.false)) refl c.requires.ended (omega arith)
