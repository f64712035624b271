use Rattle.std.proofs.Common.{[], ◌∷◌, sym, ap, ◌∙◌}
use Rattle.algol_expr.proofs.Chain.{via, making}
use Rattle.algol_expr.proofs.Arms.{started}
use Rattle.b67_list.proofs.Answered.{if_err_left}
use Rattle.algol_part.proofs.Chains.{skipping, refusing, brought, rest_on}
use Rattle.algol_tree.specs.Due.{names}
use Rattle.algol_tree.specs.DueDecl.{files_in}
use Rattle.algol_part.proofs.Loops.{goes_on, another, the_last, whole_list}
use Rattle.algol_part.proofs.Firsts.{files_on, files_off}
use Rattle.algol_tree.specs.declared.token.Symbol.TheVariants as symbols
use Rattle.algol_part.proofs.names.read_files.Goals as goal

pub files-init : goal.files-init
files-init c = goes_on (making (started files_in [] _) (λ vs. ap (λ xs. names xs ∷ vs) (sym c.new-files.ensures.items))) c.requires.ended

pub returns-in_err-name-clause-refused : goal.returns-in_err-name-clause-refused
returns-in_err-name-clause-refused c = if_err_left _ _ _ c.from_residual.ensures.1 (refusing c.files.invariant.run c.in_err-name.ensures.refused)

pub returns-in_err-after-clause-refused : goal.returns-in_err-after-clause-refused
returns-in_err-after-clause-refused c = if_err_left _ _ _ c.from_residual-in_err-after.ensures.1 (refusing {ws = names _ ∷ []} (making (via c.files.invariant.run c.in_ok-name.ensures.found) (λ vs. ap (λ xs. names xs ∷ vs) (sym c.in_ok-push.ensures.items))) c.in_err-after.ensures.refused)

pub files-preserved : goal.files-preserved
files-preserved c = another c.files.invariant (skipping (making (via c.files.invariant.run c.in_ok-name.ensures.found) (λ vs. ap (λ xs. names xs ∷ vs) (sym c.in_ok-push.ensures.items))) c.in_ok-after.ensures.found) (rest_on c.in_ok-name.ensures.found.behind c.in_ok-after.ensures.found.ended c.in_ok-after.ensures.found.no_longer) c.first_of.ensures symbols.Comma (sym c.is_symbol.ensures ∙ c.if-is_symbol.true) (files_on c.first_of.ensures (sym c.is_symbol.ensures ∙ c.if-is_symbol.true))

pub returns-else-is_symbol-clause-found : goal.returns-else-is_symbol-clause-found
returns-else-is_symbol-clause-found c = brought (the_last c.files.invariant (skipping (making (via c.files.invariant.run c.in_ok-name.ensures.found) (λ vs. ap (λ xs. names xs ∷ vs) (sym c.in_ok-push.ensures.items))) c.in_ok-after.ensures.found) (rest_on c.in_ok-name.ensures.found.behind c.in_ok-after.ensures.found.ended c.in_ok-after.ensures.found.no_longer) c.first_of.ensures (files_off c.first_of.ensures (sym c.is_symbol.ensures ∙ c.if-is_symbol.false))) (ap (λ xs. names xs) c.of.ensures) (whole_list c.files.invariant (skipping (making (via c.files.invariant.run c.in_ok-name.ensures.found) (λ vs. ap (λ xs. names xs ∷ vs) (sym c.in_ok-push.ensures.items))) c.in_ok-after.ensures.found) (rest_on c.in_ok-name.ensures.found.behind c.in_ok-after.ensures.found.ended c.in_ok-after.ensures.found.no_longer) c.first_of.ensures)
