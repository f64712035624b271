use Rattle.std.proofs.Common.{[], refl, sym, ap, ◌∙◌, arith}
use Rattle.algol_expr.proofs.Chain.{via, making, completing, completes_done, if_err, rest_of}
use Rattle.b67_list.proofs.Answered.{if_err_left}
use Rattle.algol_part.proofs.Chains.{bringing, refusing, refusing_all, takes_all, behind_symbol}
use Rattle.algol_part.proofs.Begun.{becomes_takes, square_takes, call_there, colon_opens, colon_too_deep}
use Rattle.algol_part.proofs.Openings.{opens_here, label_begins}
use Rattle.algol_part.specs.Phrases.{element_in, value_in}
use Rattle.algol_tree.specs.declared.token.Symbol.TheVariants as symbols
use Rattle.algol_tree.specs.Due as due
use Rattle.algol_part.proofs.opening.read_behind_name.Goals as goal

pub returns-then-is_symbol-clause-found : goal.returns-then-is_symbol-clause-found
returns-then-is_symbol-clause-found c = label_begins c.labelled.result (λ x. x.0) (λ x. x.1.now) (λ o. opens_here (colon_opens c.args.name c.args.depth c.first_of.ensures (sym c.is_symbol.ensures ∙ c.if-is_symbol.true) _ o refl) (behind_symbol c.first_of.ensures symbols.Colon c.requires.ended (sym c.is_symbol.ensures ∙ c.if-is_symbol.true))) c.labelled.ensures.opens

pub returns-then-is_symbol-clause-refused : goal.returns-then-is_symbol-clause-refused
returns-then-is_symbol-clause-refused c = if_err c.labelled.result _ _ (λ e f. colon_too_deep c.args.name c.args.depth c.first_of.ensures (sym c.is_symbol.ensures ∙ c.if-is_symbol.true) e f.0 f.1) c.labelled.ensures.deep

pub returns-in_err-value-clause-refused : goal.returns-in_err-value-clause-refused
returns-in_err-value-clause-refused c = if_err_left _ _ _ c.from_residual.ensures.1 (refusing (takes_all c.first_of.ensures (due.behind_start c.args.name c.args.depth) (value_in c.args.name) {us = []} (becomes_takes c.args.name c.args.depth c.first_of.ensures (sym c.is_symbol-else-is_symbol.ensures ∙ c.if-is_symbol-2.true))) c.in_err-value.ensures.fails)

pub returns-in_ok-value-clause-found : goal.returns-in_ok-value-clause-found
returns-in_ok-value-clause-found c = let b = rest_of (behind_symbol c.first_of.ensures symbols.Becomes c.requires.ended (sym c.is_symbol-else-is_symbol.ensures ∙ c.if-is_symbol-2.true)) c.in_ok-value.ensures.found.behind in completes_done (making (via (takes_all c.first_of.ensures (due.behind_start c.args.name c.args.depth) (value_in c.args.name) {us = []} (becomes_takes c.args.name c.args.depth c.first_of.ensures (sym c.is_symbol-else-is_symbol.ensures ∙ c.if-is_symbol-2.true))) c.in_ok-value.ensures.found) (λ vs. refl)) (ap due.stmt c.assigned.ensures) b.ended (omega (arith, b.shorter))

pub returns-in_err-element-clause-refused : goal.returns-in_err-element-clause-refused
returns-in_err-element-clause-refused c = if_err_left _ _ _ c.from_residual-in_err-element.ensures.1 (refusing_all [] (takes_all c.first_of.ensures (due.behind_start c.args.name c.args.depth) (element_in c.args.name) {us = []} (square_takes c.args.name c.args.depth c.first_of.ensures (sym c.is_symbol-else-is_symbol-2.ensures ∙ c.if-is_symbol-3.true))) c.in_err-element.ensures.refused)

pub returns-in_ok-element-clause-found : goal.returns-in_ok-element-clause-found
returns-in_ok-element-clause-found c = let b = rest_of (behind_symbol c.first_of.ensures symbols.OpenSquare c.requires.ended (sym c.is_symbol-else-is_symbol-2.ensures ∙ c.if-is_symbol-3.true)) c.in_ok-element.ensures.found.behind in completes_done (bringing {ds = []} (takes_all c.first_of.ensures (due.behind_start c.args.name c.args.depth) (element_in c.args.name) {us = []} (square_takes c.args.name c.args.depth c.first_of.ensures (sym c.is_symbol-else-is_symbol-2.ensures ∙ c.if-is_symbol-3.true))) c.in_ok-element.ensures.found) refl b.ended (omega (arith, b.shorter))

pub returns-in_err-actuals-clause-refused : goal.returns-in_err-actuals-clause-refused
returns-in_err-actuals-clause-refused c = if_err_left _ _ _ c.from_residual-in_err-actuals.ensures.1 (refusing (call_there c.args.name c.args.depth {us = []} c.first_of.ensures (sym c.is_symbol.ensures ∙ c.if-is_symbol.false) (sym c.is_symbol-else-is_symbol.ensures ∙ c.if-is_symbol-2.false) (sym c.is_symbol-else-is_symbol-2.ensures ∙ c.if-is_symbol-3.false)) c.in_err-actuals.ensures.refused)

pub returns-in_ok-actuals-clause-found : goal.returns-in_ok-actuals-clause-found
returns-in_ok-actuals-clause-found c = completes_done (making (completing (call_there c.args.name c.args.depth {us = []} c.first_of.ensures (sym c.is_symbol.ensures ∙ c.if-is_symbol.false) (sym c.is_symbol-else-is_symbol.ensures ∙ c.if-is_symbol-2.false) (sym c.is_symbol-else-is_symbol-2.ensures ∙ c.if-is_symbol-3.false)) c.in_ok-actuals.ensures.found) (λ vs. refl)) (ap due.stmt c.called.ensures) c.in_ok-actuals.ensures.found.ended c.in_ok-actuals.ensures.found.no_longer
