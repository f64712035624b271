use Rattle.std.proofs.Common.{[], ◌∷◌, refl, sym, ap, ◌∙◌}
use Rattle.algol_expr.proofs.Chain.{via, making, rest_of}
use Rattle.algol_expr.proofs.Arms.{started}
use Rattle.b67_list.proofs.Answered.{if_err_left}
use Rattle.algol_part.proofs.Chains.{refusing, brought, skips_it, behind_symbol, then, takes_all}
use Rattle.algol_part.specs.Phrases.{lows_in_phrase}
use mir.Val.{SFits}
use Rattle.std.proofs.Common.{w64, rules}
use Rattle.std.proofs.lemmas.Int.{to_z-of_z}
use Rattle.algol_part.proofs.Loops.{one_item_as, two_items_as}
use Rattle.algol_part.proofs.Firsts.{lows_on, lows_off, more_lows}
use Rattle.algol_tree.specs.declared.token.Symbol.TheVariants as symbols
use Rattle.algol_tree.specs.Due as due
use Rattle.algol_part.proofs.heading.read_lows.Goals as goal

pub returns-in_err-low-clause-refused : goal.returns-in_err-low-clause-refused
returns-in_err-low-clause-refused c = if_err_left _ _ _ c.from_residual.ensures.1 (refusing {ws = due.lows [] ∷ []} (making {xs = due.lows [] ∷ []} (started lows_in_phrase [] _) (λ vs. refl)) c.in_err-low.ensures.refused)

pub returns-else-is_symbol-clause-found : goal.returns-else-is_symbol-clause-found
returns-else-is_symbol-clause-found c = let fits : SFits w64 c.in_ok-low.low = search rules in brought (then (making {xs = due.lows (_ ∷ []) ∷ []} (via {ws = due.lows [] ∷ []} (making {xs = due.lows [] ∷ []} (started lows_in_phrase [] _) (λ vs. refl)) c.in_ok-low.ensures.found) (λ vs. refl)) (skips_it c.first_of.ensures due.lows_more (lows_off c.first_of.ensures (sym c.is_symbol.ensures ∙ c.if-is_symbol.false)))) (ap due.lows (c.of-else-is_symbol.ensures ∙ one_item_as _ _ c.in_ok-low.low _ c.new-lows.ensures.items c.in_ok-push.ensures.items (to_z-of_z w64 c.in_ok-low.low fits))) c.in_ok-low.ensures.found.behind

pub returns-in_err-low-2-clause-refused : goal.returns-in_err-low-2-clause-refused
returns-in_err-low-2-clause-refused c = if_err_left _ _ _ c.from_residual-in_err-low-2.ensures.1 (refusing {ws = due.lows (_ ∷ []) ∷ []} (then (making {xs = due.lows (_ ∷ []) ∷ []} (via {ws = due.lows [] ∷ []} (making {xs = due.lows [] ∷ []} (started lows_in_phrase [] _) (λ vs. refl)) c.in_ok-low.ensures.found) (λ vs. refl)) (takes_all c.first_of.ensures due.lows_more more_lows (lows_on c.first_of.ensures (sym c.is_symbol.ensures ∙ c.if-is_symbol.true)))) c.in_err-low-2.ensures.refused)

pub returns-in_ok-push-2-clause-found : goal.returns-in_ok-push-2-clause-found
returns-in_ok-push-2-clause-found c = let fits : SFits w64 c.in_ok-low.low = search rules in let fits_too : SFits w64 c.in_ok-low-2.low = search rules in brought (making (via {ws = due.lows (_ ∷ []) ∷ []} (then (making {xs = due.lows (_ ∷ []) ∷ []} (via {ws = due.lows [] ∷ []} (making {xs = due.lows [] ∷ []} (started lows_in_phrase [] _) (λ vs. refl)) c.in_ok-low.ensures.found) (λ vs. refl)) (takes_all c.first_of.ensures due.lows_more more_lows (lows_on c.first_of.ensures (sym c.is_symbol.ensures ∙ c.if-is_symbol.true)))) c.in_ok-low-2.ensures.found) (λ vs. refl)) (ap due.lows (c.of.ensures ∙ two_items_as _ _ _ c.in_ok-low-2.low _ (one_item_as _ _ c.in_ok-low.low _ c.new-lows.ensures.items c.in_ok-push.ensures.items (to_z-of_z w64 c.in_ok-low.low fits)) c.in_ok-push-2.ensures.items (to_z-of_z w64 c.in_ok-low-2.low fits_too))) (rest_of c.in_ok-low.ensures.found.behind (rest_of (behind_symbol c.first_of.ensures symbols.Comma c.in_ok-low.ensures.found.behind.ended (sym c.is_symbol.ensures ∙ c.if-is_symbol.true)) c.in_ok-low-2.ensures.found.behind))
