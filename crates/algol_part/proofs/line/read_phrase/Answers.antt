use Rattle.std.proofs.Common.{[], ◌∷◌, refl, sym, ◌∙◌}
use Rattle.algol_expr.proofs.Chain.{making}
use Rattle.algol_part.proofs.Chains.{refuses_here, takes_it, behind_it, added}
use Rattle.algol_tree.specs.Due.{phrase}
use Rattle.algol_part.proofs.Firsts.{phrase_takes, not_end_phrase, phrase_refuses}
use Rattle.algol_tree.specs.Due as due
use Rattle.algol_part.proofs.line.read_phrase.Goals as goal

pub returns-in-Some-clause-found : goal.returns-in-Some-clause-found
returns-in-Some-clause-found c = added (λ xs. making (takes_it c.first_of.ensures phrase _ {ds = []} {us = due.phrases xs ∷ []} (phrase_takes c.first_of.ensures _ (sym c.in_ok-phrase.ensures ∙ c.in-Some.is))) (λ vs. refl)) (behind_it c.first_of.ensures c.requires.ended (not_end_phrase _ _ (sym c.in_ok-phrase.ensures ∙ c.in-Some.is)))

pub returns-in-None-clause-refused : goal.returns-in-None-clause-refused
returns-in-None-clause-refused c = λ xs. refuses_here c.first_of.ensures _ phrase [] _ _ refl (phrase_refuses c.first_of.ensures (sym c.in_ok-phrase.ensures ∙ c.in-None.is)) c.unexpected.ensures
