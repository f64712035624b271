use Rattle.std.proofs.Common.{[], refl, sym, ap, ◌∙◌, arith}
use Rattle.algol_expr.proofs.Chain.{making, completes_done}
use Rattle.algol_part.proofs.Chains.{takes_it, makes_it, behind_word}
use Rattle.algol_part.specs.Phrases.{closed_names}
use Rattle.algol_part.proofs.Tails.{completes_by, refuses_by}
use Rattle.algol_part.proofs.Firsts.{values_on, values_off}
use Rattle.algol_tree.specs.declared.token.Reserved.TheVariants as reserved
use Rattle.algol_tree.specs.Due as due
use Rattle.algol_part.proofs.heading.read_values.Goals as goal

pub returns-then-is_word-clause-found : goal.returns-then-is_word-clause-found
returns-then-is_word-clause-found c = completes_by c.read_closed_names.result (λ x. due.names x.0) (λ x. x.1.now) (behind_word c.first_of.ensures reserved.Value c.requires.ended (sym c.is_word.ensures ∙ c.if-is_word.true)) closed_names (takes_it c.first_of.ensures due.values_part _ {ds = []} {us = []} (values_on c.first_of.ensures (sym c.is_word.ensures ∙ c.if-is_word.true))) c.read_closed_names.ensures.found

pub returns-then-is_word-clause-refused : goal.returns-then-is_word-clause-refused
returns-then-is_word-clause-refused c = refuses_by c.read_closed_names.result closed_names (takes_it c.first_of.ensures due.values_part _ {ds = []} {us = []} (values_on c.first_of.ensures (sym c.is_word.ensures ∙ c.if-is_word.true))) c.read_closed_names.ensures.refused

pub returns-else-is_word-clause-found : goal.returns-else-is_word-clause-found
returns-else-is_word-clause-found c = completes_done (making (makes_it c.first_of.ensures due.values_part _ {ds = []} {us = []} (values_off c.first_of.ensures (sym c.is_word.ensures ∙ c.if-is_word.false))) (λ vs. refl)) (ap due.names (c.of.ensures ∙ c.new.ensures.items)) c.requires.ended (omega arith)
