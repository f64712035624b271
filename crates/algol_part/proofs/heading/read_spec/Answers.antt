use Rattle.std.proofs.Common.{[], ◌∷◌, ◌++◌, refl, sym, ◌∙◌}
use Rattle.algol_expr.proofs.Chain.{making, rest_of}
use Rattle.b67_list.proofs.Answered.{if_err_left}
use Rattle.algol_part.proofs.Chains.{bringing, refusing_all, refuses_here, behind_it, behind_word, takes_all, added}
use Rattle.algol_tree.specs.DueDecl.{rows_specified}
use Rattle.algol_tree.specs.declared.tree.Kind.TheVariants as types
use Rattle.algol_part.proofs.Tails.{adds_by, adds_none}
use Rattle.algol_part.proofs.Specs.{spec_kind, not_end_type, spec_event, spec_array, spec_refuses, spec_of_events}
use Rattle.algol_tree.specs.declared.token.Reserved.TheVariants as reserved
use Rattle.algol_tree.specs.Due as due
use Rattle.algol_part.proofs.heading.read_spec.Goals as goal

pub returns-in-Some-clause-found : goal.returns-in-Some-clause-found
returns-in-Some-clause-found c = adds_by c.read_typed_spec.result due.specified (λ x ss. ss ++ x.0 ∷ []) (λ x. x.1.now) (due.spec_typed _ ∷ []) (behind_it c.first_of.ensures c.requires.ended (not_end_type _ _ (sym c.type_of.ensures ∙ c.in-Some.is))) (λ us. takes_all c.first_of.ensures due.spec (due.spec_typed _ ∷ []) {us = us} (spec_kind c.first_of.ensures _ (sym c.type_of.ensures ∙ c.in-Some.is))) c.read_typed_spec.ensures.found

pub returns-in-Some-clause-refused : goal.returns-in-Some-clause-refused
returns-in-Some-clause-refused c = adds_none c.read_typed_spec.result due.specified (due.spec_typed _ ∷ []) (λ us. takes_all c.first_of.ensures due.spec (due.spec_typed _ ∷ []) {us = us} (spec_kind c.first_of.ensures _ (sym c.type_of.ensures ∙ c.in-Some.is))) c.read_typed_spec.ensures.refused

pub returns-in_err-names-clause-refused : goal.returns-in_err-names-clause-refused
returns-in_err-names-clause-refused c = if_err_left _ _ _ c.from_residual.ensures.1 (λ xs. refusing_all _ (takes_all c.first_of.ensures due.spec spec_of_events {us = due.specified xs ∷ []} (spec_event c.first_of.ensures (sym c.is_word.ensures ∙ c.if-is_word.true))) c.in_err-names.ensures.refused)

pub returns-in_ok-names-clause-found : goal.returns-in_ok-names-clause-found
returns-in_ok-names-clause-found c = added (λ xs. making (bringing (takes_all c.first_of.ensures due.spec spec_of_events {us = due.specified xs ∷ []} (spec_event c.first_of.ensures (sym c.is_word.ensures ∙ c.if-is_word.true))) c.in_ok-names.ensures.found) (λ vs. refl)) (rest_of (behind_word c.first_of.ensures reserved.Event c.requires.ended (sym c.is_word.ensures ∙ c.if-is_word.true)) (c.in_ok-names.ensures.found.behind))

pub returns-then-is_word-2-clause-found : goal.returns-then-is_word-2-clause-found
returns-then-is_word-2-clause-found c = adds_by c.read_array_spec.result due.specified (λ x ss. ss ++ x.0 ∷ []) (λ x. x.1.now) (rows_specified types.Number) (behind_word c.first_of.ensures reserved.Array c.requires.ended (sym c.is_word-else-is_word.ensures ∙ c.if-is_word-2.true)) (λ us. takes_all c.first_of.ensures due.spec (rows_specified types.Number) {us = us} (spec_array c.first_of.ensures (sym c.is_word-else-is_word.ensures ∙ c.if-is_word-2.true))) c.read_array_spec.ensures.found

pub returns-then-is_word-2-clause-refused : goal.returns-then-is_word-2-clause-refused
returns-then-is_word-2-clause-refused c = adds_none c.read_array_spec.result due.specified (rows_specified types.Number) (λ us. takes_all c.first_of.ensures due.spec (rows_specified types.Number) {us = us} (spec_array c.first_of.ensures (sym c.is_word-else-is_word.ensures ∙ c.if-is_word-2.true))) c.read_array_spec.ensures.refused

pub returns-else-is_word-2-clause-refused : goal.returns-else-is_word-2-clause-refused
returns-else-is_word-2-clause-refused c = λ xs. refuses_here c.first_of.ensures _ due.spec [] _ _ refl (spec_refuses c.first_of.ensures (sym c.type_of.ensures ∙ c.in_default.is) (sym c.is_word.ensures ∙ c.if-is_word.false) (sym c.is_word-else-is_word.ensures ∙ c.if-is_word-2.false)) c.unexpected.ensures
