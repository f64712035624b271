use Rattle.std.proofs.Common.{[], ◌∷◌, sym, ap, ◌∙◌}
use Rattle.algol_expr.proofs.Chain.{via, making}
use Rattle.algol_expr.proofs.Arms.{started}
use Rattle.b67_list.proofs.Answered.{if_err_left}
use Rattle.algol_part.proofs.Chains.{refusing, brought}
use Rattle.algol_tree.specs.Due.{names}
use Rattle.algol_tree.specs.DueDecl.{names_in_list}
use Rattle.algol_part.proofs.Loops.{goes_on, another, the_last, whole_list}
use Rattle.algol_part.proofs.Firsts.{names_on, names_off}
use Rattle.algol_tree.specs.declared.token.Symbol.TheVariants as symbols
use Rattle.algol_part.proofs.names.read_names.Goals as goal

pub names-init : goal.names-init
names-init c = goes_on (making (started names_in_list [] _) (λ vs. ap (λ xs. names xs ∷ vs) (sym c.new-names.ensures.items))) c.requires.ended

pub returns-in_err-name-clause-refused : goal.returns-in_err-name-clause-refused
returns-in_err-name-clause-refused c = if_err_left _ _ _ c.from_residual.ensures.1 (refusing c.names.invariant.run c.in_err-name.ensures.refused)

pub names-preserved : goal.names-preserved
names-preserved c = another c.names.invariant (making (via c.names.invariant.run c.in_ok-name.ensures.found) (λ vs. ap (λ xs. names xs ∷ vs) (sym c.in_ok-push.ensures.items))) c.in_ok-name.ensures.found.behind c.first_of.ensures symbols.Comma (sym c.is_symbol.ensures ∙ c.if-is_symbol.true) (names_on c.first_of.ensures (sym c.is_symbol.ensures ∙ c.if-is_symbol.true))

pub returns-else-is_symbol-clause-found : goal.returns-else-is_symbol-clause-found
returns-else-is_symbol-clause-found c = brought (the_last c.names.invariant (making (via c.names.invariant.run c.in_ok-name.ensures.found) (λ vs. ap (λ xs. names xs ∷ vs) (sym c.in_ok-push.ensures.items))) c.in_ok-name.ensures.found.behind c.first_of.ensures (names_off c.first_of.ensures (sym c.is_symbol.ensures ∙ c.if-is_symbol.false))) (ap (λ xs. names xs) c.of.ensures) (whole_list c.names.invariant (making (via c.names.invariant.run c.in_ok-name.ensures.found) (λ vs. ap (λ xs. names xs ∷ vs) (sym c.in_ok-push.ensures.items))) c.in_ok-name.ensures.found.behind c.first_of.ensures)
