use Rattle.std.proofs.Common.{[], ◌∷◌, sym, ap, ◌∙◌}
use Rattle.algol_expr.proofs.Chain.{via, making}
use Rattle.algol_expr.proofs.Arms.{started}
use Rattle.algol_expr.proofs.Lists.{one_more}
use Rattle.b67_list.proofs.Answered.{if_err_left}
use Rattle.algol_part.proofs.Chains.{refusing, brought}
use Rattle.algol_tree.specs.Due.{many}
use Rattle.algol_tree.specs.DueStmt.{wholes_in}
use Rattle.algol_part.proofs.Loops.{goes_on, another, the_last, whole_list}
use Rattle.algol_part.proofs.Firsts.{wholes_on, wholes_off}
use Rattle.algol_tree.specs.declared.token.Symbol.TheVariants as symbols
use Rattle.algol_tree.specs.Image as image
use Rattle.algol_part.proofs.exprs.read_exprs.Goals as goal

pub exprs-init : goal.exprs-init
exprs-init c = goes_on (making (started wholes_in [] _) (λ vs. ap (λ xs. many (image.exprs xs) ∷ vs) (sym c.new-exprs.ensures.items))) c.requires.ended

pub returns-in_err-expr-clause-refused : goal.returns-in_err-expr-clause-refused
returns-in_err-expr-clause-refused c = if_err_left _ _ _ c.from_residual.ensures.1 (refusing c.exprs.invariant.run c.in_err-expr.ensures.fails)

pub exprs-preserved : goal.exprs-preserved
exprs-preserved c = another c.exprs.invariant (making (via c.exprs.invariant.run c.in_ok-expr.ensures.found) (λ vs. ap (λ es. many es ∷ vs) (one_more _ _ _ c.in_ok-push.ensures.items))) c.in_ok-expr.ensures.found.behind c.first_of.ensures symbols.Comma (sym c.is_symbol.ensures ∙ c.if-is_symbol.true) (wholes_on c.first_of.ensures (sym c.is_symbol.ensures ∙ c.if-is_symbol.true))

pub returns-else-is_symbol-clause-found : goal.returns-else-is_symbol-clause-found
returns-else-is_symbol-clause-found c = brought (the_last c.exprs.invariant (making (via c.exprs.invariant.run c.in_ok-expr.ensures.found) (λ vs. ap (λ es. many es ∷ vs) (one_more _ _ _ c.in_ok-push.ensures.items))) c.in_ok-expr.ensures.found.behind c.first_of.ensures (wholes_off c.first_of.ensures (sym c.is_symbol.ensures ∙ c.if-is_symbol.false))) (ap (λ xs. many (image.exprs xs)) c.of.ensures) (whole_list c.exprs.invariant (making (via c.exprs.invariant.run c.in_ok-expr.ensures.found) (λ vs. ap (λ es. many es ∷ vs) (one_more _ _ _ c.in_ok-push.ensures.items))) c.in_ok-expr.ensures.found.behind c.first_of.ensures)
