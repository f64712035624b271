use Rattle.std.proofs.Common.{[], refl, sym, ap, ◌∙◌, arith}
use Rattle.algol_expr.proofs.Chain.{making, completes_done}
use Rattle.algol_part.proofs.Chains.{takes_it, makes_it, behind_symbol}
use Rattle.algol_tree.specs.Due.{many, actuals_part}
use Rattle.algol_part.proofs.Tails.{completes_by, refuses_by}
use Rattle.algol_part.proofs.Firsts.{actuals_on, actuals_off, actuals}
use Rattle.algol_tree.specs.declared.token.Symbol.TheVariants as symbols
use Rattle.algol_tree.specs.Image as image
use Rattle.algol_part.proofs.exprs.read_actuals.Goals as goal

pub returns-then-is_symbol-clause-found : goal.returns-then-is_symbol-clause-found
returns-then-is_symbol-clause-found c = completes_by c.read_closed_exprs.result (λ x. many (image.exprs x.0)) (λ x. x.1.now) (behind_symbol c.first_of.ensures symbols.OpenRound c.requires.ended (sym c.is_symbol.ensures ∙ c.if-is_symbol.true)) actuals (takes_it c.first_of.ensures actuals_part _ {ds = []} {us = []} (actuals_on c.first_of.ensures (sym c.is_symbol.ensures ∙ c.if-is_symbol.true))) c.read_closed_exprs.ensures.found

pub returns-then-is_symbol-clause-refused : goal.returns-then-is_symbol-clause-refused
returns-then-is_symbol-clause-refused c = refuses_by c.read_closed_exprs.result actuals (takes_it c.first_of.ensures actuals_part _ {ds = []} {us = []} (actuals_on c.first_of.ensures (sym c.is_symbol.ensures ∙ c.if-is_symbol.true))) c.read_closed_exprs.ensures.refused

pub returns-else-is_symbol-clause-found : goal.returns-else-is_symbol-clause-found
returns-else-is_symbol-clause-found c = completes_done (making (makes_it c.first_of.ensures actuals_part _ {ds = []} {us = []} (actuals_off c.first_of.ensures (sym c.is_symbol.ensures ∙ c.if-is_symbol.false))) (λ vs. refl)) (ap (λ xs. many (image.exprs xs)) (c.of.ensures ∙ c.new.ensures.items)) c.requires.ended (omega arith)
