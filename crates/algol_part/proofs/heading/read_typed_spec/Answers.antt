use Rattle.std.proofs.Common.{[], ◌∷◌, ◌++◌, refl, sym, ◌∙◌}
use Rattle.algol_expr.proofs.Chain.{making}
use Rattle.b67_list.proofs.Answered.{if_err_left}
use Rattle.algol_part.proofs.Chains.{bringing, refusing_all, behind_word, takes_all, added}
use Rattle.algol_tree.specs.DueDecl.{rows_specified}
use Rattle.algol_part.proofs.Tails.{adds_by, adds_none}
use Rattle.algol_part.proofs.Specs.{typed_array, typed_names}
use Rattle.algol_tree.specs.declared.token.Reserved.TheVariants as reserved
use Rattle.algol_tree.specs.Due as due
use Rattle.algol_part.proofs.heading.read_typed_spec.Goals as goal

pub returns-then-is_word-clause-found : goal.returns-then-is_word-clause-found
returns-then-is_word-clause-found c = adds_by c.read_array_spec.result due.specified (λ x ss. ss ++ x.0 ∷ []) (λ x. x.1.now) (rows_specified c.args.kind) (behind_word c.first_of.ensures reserved.Array c.requires.ended (sym c.is_word.ensures ∙ c.if-is_word.true)) (λ us. takes_all c.first_of.ensures (due.spec_typed c.args.kind) (rows_specified c.args.kind) {us = us} (typed_array c.first_of.ensures _ (sym c.is_word.ensures ∙ c.if-is_word.true))) c.read_array_spec.ensures.found

pub returns-then-is_word-clause-refused : goal.returns-then-is_word-clause-refused
returns-then-is_word-clause-refused c = adds_none c.read_array_spec.result due.specified (rows_specified c.args.kind) (λ us. takes_all c.first_of.ensures (due.spec_typed c.args.kind) (rows_specified c.args.kind) {us = us} (typed_array c.first_of.ensures _ (sym c.is_word.ensures ∙ c.if-is_word.true))) c.read_array_spec.ensures.refused

pub returns-in_err-names-clause-refused : goal.returns-in_err-names-clause-refused
returns-in_err-names-clause-refused c = if_err_left _ _ _ c.from_residual.ensures.1 (λ xs. refusing_all _ (typed_names (due.specified xs ∷ []) c.first_of.ensures c.args.kind (sym c.is_word.ensures ∙ c.if-is_word.false)) c.in_err-names.ensures.refused)

pub returns-in_ok-names-clause-found : goal.returns-in_ok-names-clause-found
returns-in_ok-names-clause-found c = added (λ xs. making (bringing (typed_names (due.specified xs ∷ []) c.first_of.ensures c.args.kind (sym c.is_word.ensures ∙ c.if-is_word.false)) c.in_ok-names.ensures.found) (λ vs. refl)) (c.in_ok-names.ensures.found.behind)
