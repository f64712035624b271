use Rattle.std.proofs.Common.{[], ◌∷◌, refl, sym, ap, ◌∙◌}
use Rattle.algol_expr.proofs.Chain.{making, rest_of}
use Rattle.algol_expr.proofs.Arms.{started}
use Rattle.b67_list.proofs.Answered.{if_err_left}
use Rattle.algol_part.proofs.Chains.{adding, refusing_on, brought, skips_it, behind_symbol, then, takes_all}
use Rattle.algol_part.specs.Phrases.{pairs_in}
use Rattle.algol_tree.specs.DueStmt.{pair_in}
use Rattle.algol_part.proofs.Loops.{one_item, two_items}
use Rattle.algol_part.proofs.Firsts.{pairs_on, pairs_off}
use Rattle.algol_tree.specs.declared.token.Symbol.TheVariants as symbols
use Rattle.algol_tree.specs.Due as due
use Rattle.algol_tree.specs.Image as image
use Rattle.algol_part.proofs.declaration.read_pairs.Goals as goal

pub returns-in_err-pair-clause-refused : goal.returns-in_err-pair-clause-refused
returns-in_err-pair-clause-refused c = if_err_left _ _ _ c.from_residual.ensures.1 (refusing_on (due.pairs_more ∷ []) {ws = []} (making {xs = due.pairs [] ∷ []} (started pairs_in [] _) (λ vs. refl)) (c.in_err-pair.ensures.refused []))

pub returns-else-is_symbol-clause-found : goal.returns-else-is_symbol-clause-found
returns-else-is_symbol-clause-found c = brought (then (adding {ds = due.pairs_more ∷ []} {ws = []} {xs = []} (making {xs = due.pairs [] ∷ []} (started pairs_in [] _) (λ vs. refl)) c.in_ok-pair.ensures.found) (skips_it c.first_of.ensures due.pairs_more (pairs_off c.first_of.ensures (sym c.is_symbol.ensures ∙ c.if-is_symbol.false)))) (ap (λ xs. due.pairs (image.pairs xs)) (c.of-else-is_symbol.ensures ∙ one_item _ _ c.in_ok-pair.pair c.new-pairs.ensures.items c.in_ok-push.ensures.items)) c.in_ok-pair.ensures.found.behind

pub returns-in_err-pair-2-clause-refused : goal.returns-in_err-pair-2-clause-refused
returns-in_err-pair-2-clause-refused c = if_err_left _ _ _ c.from_residual-in_err-pair-2.ensures.1 (refusing_on [] {ws = []} (then (adding {ds = due.pairs_more ∷ []} {ws = []} {xs = []} (making {xs = due.pairs [] ∷ []} (started pairs_in [] _) (λ vs. refl)) c.in_ok-pair.ensures.found) (takes_all c.first_of.ensures due.pairs_more pair_in (pairs_on c.first_of.ensures (sym c.is_symbol.ensures ∙ c.if-is_symbol.true)))) (c.in_err-pair-2.ensures.refused _))

pub returns-in_ok-push-2-clause-found : goal.returns-in_ok-push-2-clause-found
returns-in_ok-push-2-clause-found c = brought (adding {ds = []} {ws = []} (then (adding {ds = due.pairs_more ∷ []} {ws = []} {xs = []} (making {xs = due.pairs [] ∷ []} (started pairs_in [] _) (λ vs. refl)) c.in_ok-pair.ensures.found) (takes_all c.first_of.ensures due.pairs_more pair_in (pairs_on c.first_of.ensures (sym c.is_symbol.ensures ∙ c.if-is_symbol.true)))) c.in_ok-pair-2.ensures.found) (ap (λ xs. due.pairs (image.pairs xs)) (c.of.ensures ∙ two_items _ _ _ c.in_ok-pair-2.pair (one_item _ _ c.in_ok-pair.pair c.new-pairs.ensures.items c.in_ok-push.ensures.items) c.in_ok-push-2.ensures.items)) (rest_of c.in_ok-pair.ensures.found.behind (rest_of (behind_symbol c.first_of.ensures symbols.Comma c.in_ok-pair.ensures.found.behind.ended (sym c.is_symbol.ensures ∙ c.if-is_symbol.true)) c.in_ok-pair-2.ensures.found.behind))
