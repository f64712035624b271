use Rattle.std.proofs.Common.{[], refl, ap, ◌∙◌}
use Rattle.algol_expr.proofs.Chain.{making, done}
use Rattle.algol_part.proofs.Chains.{refuses_here, takes_it, behind_it}
use mir.Val.{SFits}
use Rattle.std.proofs.Common.{w64, rules}
use Rattle.std.proofs.lemmas.Int.{to_z-of_z}
use Rattle.algol_tree.specs.Due.{number_negated}
use Rattle.algol_part.proofs.Firsts.{negated_refuses, negated_takes, not_end_number}
use Rattle.algol_tree.specs.Due as due
use Rattle.algol_part.proofs.take.read_negated.Goals as goal

pub returns-in-Some-clause-found : goal.returns-in-Some-clause-found
returns-in-Some-clause-found c = let fits : SFits w64 c.negated.result = search rules in done (making (takes_it c.first_of.ensures number_negated _ {ds = []} {us = []} (negated_takes c.first_of.ensures _ c.in-Some.ensures.some)) (λ vs. refl)) (ap due.low (to_z-of_z w64 c.negated.result fits ∙ c.negated.ensures)) (behind_it c.first_of.ensures c.requires.ended (not_end_number _ _ c.in-Some.ensures.some))

pub returns-in-None-clause-refused : goal.returns-in-None-clause-refused
returns-in-None-clause-refused c = refuses_here c.first_of.ensures _ number_negated [] [] _ refl (negated_refuses c.first_of.ensures c.in-None.ensures.none) c.unexpected.ensures
