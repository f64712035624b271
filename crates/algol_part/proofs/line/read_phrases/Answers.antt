use Rattle.std.proofs.Common.{[], ◌∷◌, sym, ap, ◌∙◌}
use Rattle.algol_expr.proofs.Chain.{making}
use Rattle.algol_expr.proofs.Arms.{started}
use Rattle.b67_list.proofs.Answered.{if_err_left}
use Rattle.algol_part.proofs.Chains.{adding, refusing_on, brought, valued}
use Rattle.algol_part.specs.Phrases.{phrases_in}
use Rattle.algol_part.proofs.Loops.{goes_on, another, the_last, whole_list}
use Rattle.algol_part.proofs.Firsts.{phrases_on, phrases_off}
use Rattle.algol_tree.specs.declared.token.Symbol.TheVariants as symbols
use Rattle.algol_tree.specs.Due as due
use Rattle.algol_part.proofs.line.read_phrases.Goals as goal

pub phrases-init : goal.phrases-init
phrases-init c = goes_on (making (started phrases_in [] _) (λ vs. ap (λ xs. due.phrases xs ∷ vs) (sym c.new-phrases.ensures.items))) c.requires.ended

pub returns-in_err-phrase-clause-refused : goal.returns-in_err-phrase-clause-refused
returns-in_err-phrase-clause-refused c = if_err_left _ _ _ c.from_residual.ensures.1 (refusing_on _ {ws = []} c.phrases.invariant.run (c.in_err-phrase.ensures.refused _))

pub phrases-preserved : goal.phrases-preserved
phrases-preserved c = another c.phrases.invariant (valued {ws = []} (adding {ws = []} c.phrases.invariant.run c.in_ok-phrase.ensures.found) (ap due.phrases c.in_ok-push.ensures.items)) c.in_ok-phrase.ensures.found.behind c.first_of.ensures symbols.Comma (sym c.is_symbol.ensures ∙ c.if-is_symbol.true) (phrases_on c.first_of.ensures (sym c.is_symbol.ensures ∙ c.if-is_symbol.true))

pub returns-else-is_symbol-clause-found : goal.returns-else-is_symbol-clause-found
returns-else-is_symbol-clause-found c = brought (the_last c.phrases.invariant (valued {ws = []} (adding {ws = []} c.phrases.invariant.run c.in_ok-phrase.ensures.found) (ap due.phrases c.in_ok-push.ensures.items)) c.in_ok-phrase.ensures.found.behind c.first_of.ensures (phrases_off c.first_of.ensures (sym c.is_symbol.ensures ∙ c.if-is_symbol.false))) (ap (λ xs. due.phrases xs) c.of.ensures) (whole_list c.phrases.invariant (valued {ws = []} (adding {ws = []} c.phrases.invariant.run c.in_ok-phrase.ensures.found) (ap due.phrases c.in_ok-push.ensures.items)) c.in_ok-phrase.ensures.found.behind c.first_of.ensures)
