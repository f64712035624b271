use Rattle.std.proofs.Common.{[], ◌∷◌, refl, sym, ap, ◌∙◌}
use Rattle.algol_expr.proofs.Chain.{making, done}
use Rattle.algol_part.proofs.Chains.{refuses_here, takes_it, behind_it, behind_symbol}
use mir.Val.{SFits}
use Rattle.std.proofs.Common.{w64, rules}
use Rattle.std.proofs.lemmas.Int.{to_z-of_z}
use Rattle.algol_tree.specs.Due.{literal, number_negated, low}
use Rattle.algol_part.proofs.Tails.{finds_by, refuses_by}
use Rattle.algol_part.proofs.Firsts.{literal_refuses, minus_takes, number_takes, not_end_number}
use Rattle.algol_tree.specs.declared.token.Symbol.TheVariants as symbols
use Rattle.algol_tree.specs.Due as due
use Rattle.algol_part.proofs.take.read_literal.Goals as goal

pub returns-then-is_symbol-clause-found : goal.returns-then-is_symbol-clause-found
returns-then-is_symbol-clause-found c = finds_by c.read_negated.result (λ x. low x.0) (λ x. x.1.now) (behind_symbol c.first_of.ensures symbols.Minus c.requires.ended (sym c.is_symbol.ensures ∙ c.if-is_symbol.true)) (takes_it c.first_of.ensures literal (number_negated ∷ []) {ds = []} {us = []} (minus_takes c.first_of.ensures (sym c.is_symbol.ensures ∙ c.if-is_symbol.true))) c.read_negated.ensures.found

pub returns-then-is_symbol-clause-refused : goal.returns-then-is_symbol-clause-refused
returns-then-is_symbol-clause-refused c = refuses_by c.read_negated.result (number_negated ∷ []) (takes_it c.first_of.ensures literal (number_negated ∷ []) {ds = []} {us = []} (minus_takes c.first_of.ensures (sym c.is_symbol.ensures ∙ c.if-is_symbol.true))) c.read_negated.ensures.refused

pub returns-in-Some-clause-found : goal.returns-in-Some-clause-found
returns-in-Some-clause-found c = let fits : SFits w64 c.number.result = search rules in done (making (takes_it c.first_of.ensures literal _ {ds = []} {us = []} (number_takes c.first_of.ensures _ c.in-Some.ensures.some)) (λ vs. refl)) (ap due.low (to_z-of_z w64 c.number.result fits ∙ c.number.ensures.value)) (behind_it c.first_of.ensures c.requires.ended (not_end_number _ _ c.in-Some.ensures.some))

pub returns-in-None-clause-refused : goal.returns-in-None-clause-refused
returns-in-None-clause-refused c = refuses_here c.first_of.ensures _ literal [] [] _ refl (literal_refuses c.first_of.ensures (sym c.is_symbol.ensures ∙ c.if-is_symbol.false) c.in-None.ensures.none) c.unexpected.ensures
