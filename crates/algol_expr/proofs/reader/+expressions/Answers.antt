use Rattle.std.proofs.Common.{[], ◌∷◌, sym, subst, ap, ◌∙◌, refl, arith, IfOk, IfErr}
use Rattle.algol_tree.specs.Plain as plains
use Rattle.algol_tree.specs.Image.{expr as plain, exprs as plain_list}
use Rattle.b67_list.proofs.Answered.{if_err_left}
use Rattle.algol_expr.proofs.Lists.{list_begins, list_goes_on, list_fails_item, list_fails_closing, list_done}
use Rattle.algol_tree.specs.Due.{one, part, word, make}
use Rattle.std.proofs.lemmas.Result.{IfOk-weaker}
use Rattle.algol_expr.proofs.Chain.{if_err, no_memory, failing, via, past, making, done, finds_as, fails_as, completes_to, listing, failing_list, completes_done, behind_token, first_shorter, rest_of, rest_cons, rest_first}
use Rattle.algol_expr.proofs.Starts.{if_starts, if_too_deep, expr_is, not_starts, not_too_deep, sign_starts, literal_is, not_end_literal, name_starts, primary_fails, group_starts, group_too_deep, square_starts, round_starts, square_too_deep, round_too_deep, name_alone}
use Rattle.algol_expr.proofs.Arms.{failing_on, through, started, lists_as}
use Rattle.algol_expr.proofs.Climbing.{steps_begin, steps_fail_first, steps_go_on, steps_fail, steps_done, begins_so, fails_so, begins_not, begins_primary, begins_signed}
use Rattle.algol_expr.proofs.Relations.{relation_found, relation_fails, no_relation}
use Rattle.algol_expr.specs.Steps.{due_of}
use Rattle.algol_expr.proofs.Operands.{operands_begin, operands_go_on, operands_fail, operands_done}
use Rattle.algol_tree.specs.Operators.{expr, level, operand, primary}
use Rattle.algol_tree.specs.declared.level.Level.TheVariants as levels
use Rattle.algol_tree.specs.declared.token.Reserved.TheVariants as reserved
use Rattle.algol_tree.specs.DueExpr.{expr_chosen}
use Rattle.algol_tree.specs.Found.{ReaderFinds, Extends, Fails}
use Rattle.algol_expr.proofs.reader.+expressions.Goals as goal

pub read_choice-returns-in_err-inner-clause-refused : goal.read_choice-returns-in_err-inner-clause-refused
read_choice-returns-in_err-inner-clause-refused t c = if_err_left _ _ _ c.from_residual.ensures.1 (if_too_deep _ _ _ _ _ c.requires.word c.in_err-inner.ensures.deep.0 c.in_err-inner.ensures.deep.1 c.in_err-inner.ensures.deep.2)

pub read_choice-returns-in_err-condition-clause-refused : goal.read_choice-returns-in_err-condition-clause-refused
read_choice-returns-in_err-condition-clause-refused t c = if_err_left _ _ _ c.from_residual-in_err-condition.ensures.1 (failing (if_starts _ _ _ _ c.requires.word c.in_ok-inner.ensures.opens.0 c.in_ok-inner.ensures.opens.1) c.in_err-condition.ensures.refused)

pub read_choice-returns-in_err-rest-clause-refused : goal.read_choice-returns-in_err-rest-clause-refused
read_choice-returns-in_err-rest-clause-refused t c = if_err_left _ _ _ c.from_residual-in_err-rest.ensures.1 (failing (via (if_starts _ _ _ _ c.requires.word c.in_ok-inner.ensures.opens.0 c.in_ok-inner.ensures.opens.1) c.in_ok-condition.ensures.found) c.in_err-rest.ensures.fails)

pub read_choice-returns-in_err-whole-clause-refused : goal.read_choice-returns-in_err-whole-clause-refused
read_choice-returns-in_err-whole-clause-refused t c = if_err_left _ _ _ c.from_residual-in_err-whole.ensures.1 (failing_on (past (via (if_starts _ _ _ _ c.requires.word c.in_ok-inner.ensures.opens.0 c.in_ok-inner.ensures.opens.1) c.in_ok-condition.ensures.found) c.in_ok-rest.ensures.passes) c.in_err-whole.ensures.refused)

pub read_choice-returns-clause-found : goal.read_choice-returns-clause-found
read_choice-returns-clause-found t c = done (through (past (via (if_starts _ _ _ _ c.requires.word c.in_ok-inner.ensures.opens.0 c.in_ok-inner.ensures.opens.1) c.in_ok-condition.ensures.found) c.in_ok-rest.ensures.passes) c.in_ok-whole.ensures.found) refl (rest_cons (rest_of c.in_ok-condition.ensures.found.behind (rest_of c.in_ok-rest.ensures.passes.behind c.in_ok-whole.ensures.found.behind)))

pub read_arms-returns-in_err-yes-clause-refused : goal.read_arms-returns-in_err-yes-clause-refused
read_arms-returns-in_err-yes-clause-refused t c = if_err_left _ _ _ c.from_residual.ensures.1 (failing (started (part (level levels.Eqv) c.args.depth ∷ word reserved.Else ∷ part expr c.args.depth ∷ make (expr_chosen c.args.spot) ∷ []) (one (plain c.args.condition.value) ∷ []) _) c.in_err-yes.ensures.refused)

pub read_arms-returns-in_err-rest-clause-refused : goal.read_arms-returns-in_err-rest-clause-refused
read_arms-returns-in_err-rest-clause-refused t c = if_err_left _ _ _ c.from_residual-in_err-rest.ensures.1 (failing (via (started (part (level levels.Eqv) c.args.depth ∷ word reserved.Else ∷ part expr c.args.depth ∷ make (expr_chosen c.args.spot) ∷ []) (one (plain c.args.condition.value) ∷ []) _) c.in_ok-yes.ensures.found) c.in_err-rest.ensures.fails)

pub read_arms-returns-in_err-otherwise-clause-refused : goal.read_arms-returns-in_err-otherwise-clause-refused
read_arms-returns-in_err-otherwise-clause-refused t c = if_err_left _ _ _ c.from_residual-in_err-otherwise.ensures.1 (failing (past (via (started (part (level levels.Eqv) c.args.depth ∷ word reserved.Else ∷ part expr c.args.depth ∷ make (expr_chosen c.args.spot) ∷ []) (one (plain c.args.condition.value) ∷ []) _) c.in_ok-yes.ensures.found) c.in_ok-rest.ensures.passes) c.in_err-otherwise.ensures.refused)

pub read_arms-returns-in_err-choice-clause-refused : goal.read_arms-returns-in_err-choice-clause-refused
read_arms-returns-in_err-choice-clause-refused t c = no_memory _ _ _ _ _ c.from_residual-in_err-choice.ensures.1 c.in_err-choice.ensures.memory

pub read_arms-returns-clause-found : goal.read_arms-returns-clause-found
read_arms-returns-clause-found t c = lists_as (making (via (past (via (started (part (level levels.Eqv) c.args.depth ∷ word reserved.Else ∷ part expr c.args.depth ∷ make (expr_chosen c.args.spot) ∷ []) (one (plain c.args.condition.value) ∷ []) _) c.in_ok-yes.ensures.found) c.in_ok-rest.ensures.passes) c.in_ok-otherwise.ensures.found) (λ vs. refl)) (ap one c.in_ok-choice.ensures.built) (rest_of c.in_ok-yes.ensures.found.behind (rest_of c.in_ok-rest.ensures.passes.behind c.in_ok-otherwise.ensures.found.behind))

pub read_expression-returns-else-is_word-clause-found : goal.read_expression-returns-else-is_word-clause-found
read_expression-returns-else-is_word-clause-found t c = finds_as c.read_up_to.result (λ x. one (plain x.0.value)) (λ x. x.1.now) (expr_is _ _ _ _ c.first_of.ensures (sym c.is_word.ensures ∙ c.if-is_word.false)) c.read_up_to.ensures.found

pub read_expression-returns-else-is_word-clause-refused : goal.read_expression-returns-else-is_word-clause-refused
read_expression-returns-else-is_word-clause-refused t c = fails_as c.read_up_to.result (expr_is _ _ _ _ c.first_of.ensures (sym c.is_word.ensures ∙ c.if-is_word.false)) c.read_up_to.ensures.refused

pub read_group-returns-in_err-inner-clause-refused : goal.read_group-returns-in_err-inner-clause-refused
read_group-returns-in_err-inner-clause-refused t c = if_err_left _ _ _ c.from_residual.ensures.1 (group_too_deep _ _ _ _ _ c.requires.symbol c.in_err-inner.ensures.deep.0 c.in_err-inner.ensures.deep.1 c.in_err-inner.ensures.deep.2)

pub read_group-returns-in_err-inside-clause-refused : goal.read_group-returns-in_err-inside-clause-refused
read_group-returns-in_err-inside-clause-refused t c = if_err_left _ _ _ c.from_residual-in_err-inside.ensures.1 (failing (group_starts _ _ _ _ c.requires.symbol c.in_ok-inner.ensures.opens.0 c.in_ok-inner.ensures.opens.1) c.in_err-inside.ensures.refused)

pub read_group-returns-in_err-rest-clause-refused : goal.read_group-returns-in_err-rest-clause-refused
read_group-returns-in_err-rest-clause-refused t c = if_err_left _ _ _ c.from_residual-in_err-rest.ensures.1 (failing (via (group_starts _ _ _ _ c.requires.symbol c.in_ok-inner.ensures.opens.0 c.in_ok-inner.ensures.opens.1) c.in_ok-inside.ensures.found) c.in_err-rest.ensures.fails)

pub read_group-returns-in_err-grouped-clause-refused : goal.read_group-returns-in_err-grouped-clause-refused
read_group-returns-in_err-grouped-clause-refused t c = no_memory _ _ _ _ _ c.from_residual-in_err-grouped.ensures.1 c.in_err-grouped.ensures.memory

pub read_group-returns-clause-found : goal.read_group-returns-clause-found
read_group-returns-clause-found t c = done (making (past (via (group_starts _ _ _ _ c.requires.symbol c.in_ok-inner.ensures.opens.0 c.in_ok-inner.ensures.opens.1) c.in_ok-inside.ensures.found) c.in_ok-rest.ensures.passes) (λ vs. refl)) (ap one c.in_ok-grouped.ensures.built) (rest_cons (rest_of c.in_ok-inside.ensures.found.behind c.in_ok-rest.ensures.passes.behind))

pub read_more-operands-init : goal.read_more-operands-init
read_more-operands-init t c = operands_begin _ _ _ _ c.requires.ended

pub read_more-operands-preserved : goal.read_more-operands-preserved
read_more-operands-preserved t c = operands_go_on _ _ _ _ _ _ _ _ _ _ _ _ c.operands.invariant c.first_of.ensures (sym c.operator.ensures ∙ c.in-Some.is) c.in_ok-right-in-Some.ensures.found c.in_ok-left-in-Some.ensures.built

pub read_more-returns-in_err-right-in-Some-clause-refused : goal.read_more-returns-in_err-right-in-Some-clause-refused
read_more-returns-in_err-right-in-Some-clause-refused t c = if_err_left _ _ _ c.from_residual.ensures.1 (operands_fail _ _ _ _ _ _ _ _ _ _ _ c.operands.invariant c.first_of.ensures (sym c.operator.ensures ∙ c.in-Some.is) c.in_err-right-in-Some.ensures.refused)

pub read_more-returns-in_err-left-in-Some-clause-refused : goal.read_more-returns-in_err-left-in-Some-clause-refused
read_more-returns-in_err-left-in-Some-clause-refused t c = no_memory _ _ _ _ _ c.from_residual-in_err-left-in-Some.ensures.1 c.in_err-left-in-Some.ensures.memory

pub read_more-returns-in-None-clause-found : goal.read_more-returns-in-None-clause-found
read_more-returns-in-None-clause-found t c = operands_done _ _ _ _ _ _ _ _ c.operands.invariant c.first_of.ensures (sym c.operator.ensures ∙ c.in-None.is)

pub read_behind_name-returns-in_err-inner-clause-refused : goal.read_behind_name-returns-in_err-inner-clause-refused
read_behind_name-returns-in_err-inner-clause-refused t c = if_err_left _ _ _ c.from_residual.ensures.1 (square_too_deep _ _ _ _ _ _ _ c.first_of.ensures (sym c.is_symbol.ensures ∙ c.if-is_symbol.true) c.in_err-inner.ensures.deep.0 c.in_err-inner.ensures.deep.1 c.in_err-inner.ensures.deep.2)

pub read_behind_name-returns-in_err-subs-clause-refused : goal.read_behind_name-returns-in_err-subs-clause-refused
read_behind_name-returns-in_err-subs-clause-refused t c = if_err_left _ _ _ c.from_residual-in_err-subs.ensures.1 (failing_list (square_starts _ _ _ _ _ _ c.first_of.ensures (sym c.is_symbol.ensures ∙ c.if-is_symbol.true) c.in_ok-inner.ensures.opens.0 c.in_ok-inner.ensures.opens.1) c.in_err-subs.ensures.refused)

pub read_behind_name-returns-in_err-variable-clause-refused : goal.read_behind_name-returns-in_err-variable-clause-refused
read_behind_name-returns-in_err-variable-clause-refused t c = no_memory _ _ _ _ _ c.from_residual-in_err-variable.ensures.1 c.in_err-variable.ensures.memory

pub read_behind_name-returns-in_ok-variable-clause-found : goal.read_behind_name-returns-in_ok-variable-clause-found
read_behind_name-returns-in_ok-variable-clause-found t c = completes_done (making (listing (square_starts _ _ _ _ _ _ c.first_of.ensures (sym c.is_symbol.ensures ∙ c.if-is_symbol.true) c.in_ok-inner.ensures.opens.0 c.in_ok-inner.ensures.opens.1) c.in_ok-subs.ensures.found) (λ vs. refl)) (ap one c.in_ok-variable.ensures.built) (c.in_ok-subs.ensures.found.behind.ended) (omega (arith, (rest_first c.first_of.ensures c.in_ok-subs.ensures.found.behind).shorter))

pub read_behind_name-returns-in_err-inner-2-clause-refused : goal.read_behind_name-returns-in_err-inner-2-clause-refused
read_behind_name-returns-in_err-inner-2-clause-refused t c = if_err_left _ _ _ c.from_residual-in_err-inner-2.ensures.1 (round_too_deep _ _ _ _ _ _ _ c.first_of.ensures (sym c.is_symbol.ensures ∙ c.if-is_symbol.false) (sym c.is_symbol-else-is_symbol.ensures ∙ c.if-is_symbol-2.true) c.in_err-inner-2.ensures.deep.0 c.in_err-inner-2.ensures.deep.1 c.in_err-inner-2.ensures.deep.2)

pub read_behind_name-returns-in_err-actuals-clause-refused : goal.read_behind_name-returns-in_err-actuals-clause-refused
read_behind_name-returns-in_err-actuals-clause-refused t c = if_err_left _ _ _ c.from_residual-in_err-actuals.ensures.1 (failing_list (round_starts _ _ _ _ _ _ c.first_of.ensures (sym c.is_symbol.ensures ∙ c.if-is_symbol.false) (sym c.is_symbol-else-is_symbol.ensures ∙ c.if-is_symbol-2.true) c.in_ok-inner-2.ensures.opens.0 c.in_ok-inner-2.ensures.opens.1) c.in_err-actuals.ensures.refused)

pub read_behind_name-returns-in_err-call-clause-refused : goal.read_behind_name-returns-in_err-call-clause-refused
read_behind_name-returns-in_err-call-clause-refused t c = no_memory _ _ _ _ _ c.from_residual-in_err-call.ensures.1 c.in_err-call.ensures.memory

pub read_behind_name-returns-in_ok-call-clause-found : goal.read_behind_name-returns-in_ok-call-clause-found
read_behind_name-returns-in_ok-call-clause-found t c = completes_done (making (listing (round_starts _ _ _ _ _ _ c.first_of.ensures (sym c.is_symbol.ensures ∙ c.if-is_symbol.false) (sym c.is_symbol-else-is_symbol.ensures ∙ c.if-is_symbol-2.true) c.in_ok-inner-2.ensures.opens.0 c.in_ok-inner-2.ensures.opens.1) c.in_ok-actuals.ensures.found) (λ vs. refl)) (ap one c.in_ok-call.ensures.built) (c.in_ok-actuals.ensures.found.behind.ended) (omega (arith, (rest_first c.first_of.ensures c.in_ok-actuals.ensures.found.behind).shorter))

pub read_behind_name-returns-in_err-variable-2-clause-refused : goal.read_behind_name-returns-in_err-variable-2-clause-refused
read_behind_name-returns-in_err-variable-2-clause-refused t c = no_memory _ _ _ _ _ c.from_residual-in_err-variable-2.ensures.1 c.in_err-variable-2.ensures.memory

pub read_behind_name-returns-in_ok-variable-2-clause-found : goal.read_behind_name-returns-in_ok-variable-2-clause-found
read_behind_name-returns-in_ok-variable-2-clause-found t c = completes_done (name_alone _ _ _ _ _ c.first_of.ensures (sym c.is_symbol.ensures ∙ c.if-is_symbol.false) (sym c.is_symbol-else-is_symbol.ensures ∙ c.if-is_symbol-2.false)) (ap one (c.in_ok-variable-2.ensures.built ∙ ap (λ xs. plains.variable (plains.subscripted c.args.name (plain_list xs))) (c.of.ensures ∙ c.new.ensures.items))) c.requires.ended (omega arith)

pub read_list-items-init : goal.read_list-items-init
read_list-items-init t c = list_begins _ _ _ _ c.new-items.ensures.items c.requires.ended

pub read_list-items-preserved : goal.read_list-items-preserved
read_list-items-preserved t c = list_goes_on _ _ _ _ _ _ _ _ _ c.in_ok-item.item.value c.in_ok-add.ensures.added c.items.invariant c.in_ok-item.ensures.found c.first_of.ensures (sym c.is_symbol.ensures ∙ c.if-is_symbol.true)

pub read_list-returns-in_err-item-clause-refused : goal.read_list-returns-in_err-item-clause-refused
read_list-returns-in_err-item-clause-refused t c = if_err_left _ _ _ c.from_residual.ensures.1 (list_fails_item _ _ _ _ _ _ _ c.items.invariant c.in_err-item.ensures.refused)

pub read_list-returns-in_err-add-clause-refused : goal.read_list-returns-in_err-add-clause-refused
read_list-returns-in_err-add-clause-refused t c = no_memory _ _ _ _ _ c.from_residual-in_err-add.ensures.1 c.in_err-add.ensures.memory

pub read_list-returns-in_err-rest-clause-refused : goal.read_list-returns-in_err-rest-clause-refused
read_list-returns-in_err-rest-clause-refused t c = if_err_left _ _ _ c.from_residual-in_err-rest.ensures.1 (list_fails_closing _ _ _ _ _ _ _ _ _ c.in_ok-item.item.value _ _ c.in_ok-add.ensures.added c.items.invariant c.in_ok-item.ensures.found c.first_of.ensures (sym c.is_symbol.ensures ∙ c.if-is_symbol.false) c.in_err-rest.ensures.fails)

pub read_list-returns-else-is_symbol-clause-found : goal.read_list-returns-else-is_symbol-clause-found
read_list-returns-else-is_symbol-clause-found t c = list_done _ _ _ _ _ _ _ _ _ _ c.in_ok-item.item.value (c.of.ensures ∙ c.in_ok-add.ensures.added) c.items.invariant c.in_ok-item.ensures.found c.first_of.ensures (sym c.is_symbol.ensures ∙ c.if-is_symbol.false) c.in_ok-rest.ensures.passes

pub read_primary-returns-in-Some-clause-found : goal.read_primary-returns-in-Some-clause-found
read_primary-returns-in-Some-clause-found t c = done (literal_is _ _ _ _ _ c.first_of.ensures c.in-Some.ensures.some) (ap one c.in_ok-boxed.ensures.built) (behind_token c.first_of.ensures c.requires.ended (not_end_literal _ _ _ c.in-Some.ensures.some))

pub read_primary-returns-else-is_symbol-clause-refused : goal.read_primary-returns-else-is_symbol-clause-refused
read_primary-returns-else-is_symbol-clause-refused t c = primary_fails _ _ _ _ _ _ c.first_of.ensures c.in_default.ensures.none c.in_default-name_in.ensures.none (sym c.test_in.ensures ∙ c.in_default-test_in.is) (sym c.is_word.ensures ∙ c.if-is_word.false) (sym c.is_symbol.ensures ∙ c.if-is_symbol.false) c.refused.ensures.left c.refused.ensures.refusal

pub read_primary-returns-in-Some-name_in-clause-found : goal.read_primary-returns-in-Some-name_in-clause-found
read_primary-returns-in-Some-name_in-clause-found t c = completes_to c.read_behind_name.result (λ x. one (plain x.0.value)) (λ x. x.1.now) (name_starts _ _ _ _ _ _ c.first_of.ensures c.in-Some-name_in.ensures.some c.in_ok-name.ensures.built) (first_shorter c.first_of.ensures) c.read_behind_name.ensures.found

pub read_primary-returns-in-Some-name_in-clause-refused : goal.read_primary-returns-in-Some-name_in-clause-refused
read_primary-returns-in-Some-name_in-clause-refused t c = fails_as c.read_behind_name.result (name_starts _ _ _ _ _ _ c.first_of.ensures c.in-Some-name_in.ensures.some c.in_ok-name.ensures.built) c.read_behind_name.ensures.refused

-- a call whose answer is this one

pub read_operand-returns-in-Eqv-clause-found : goal.read_operand-returns-in-Eqv-clause-found
read_operand-returns-in-Eqv-clause-found t c = subst (λ l. IfOk c.read_up_to.result (λ r. ReaderFinds (part (operand l) c.args.depth) c.args.tokens.now (one (plain r.0.value)) r.1.now)) (sym c.in-Eqv.is) c.read_up_to.ensures.found

pub read_operand-returns-in-Eqv-clause-refused : goal.read_operand-returns-in-Eqv-clause-refused
read_operand-returns-in-Eqv-clause-refused t c = subst (λ l. IfErr c.read_up_to.result (λ e. Fails (part (operand l) c.args.depth ∷ []) [] c.args.tokens.now e.left e.refusal)) (sym c.in-Eqv.is) c.read_up_to.ensures.refused

pub read_operand-returns-in-Imp-clause-found : goal.read_operand-returns-in-Imp-clause-found
read_operand-returns-in-Imp-clause-found t c = subst (λ l. IfOk c.read_up_to-in-Imp.result (λ r. ReaderFinds (part (operand l) c.args.depth) c.args.tokens.now (one (plain r.0.value)) r.1.now)) (sym c.in-Imp.is) c.read_up_to-in-Imp.ensures.found

pub read_operand-returns-in-Imp-clause-refused : goal.read_operand-returns-in-Imp-clause-refused
read_operand-returns-in-Imp-clause-refused t c = subst (λ l. IfErr c.read_up_to-in-Imp.result (λ e. Fails (part (operand l) c.args.depth ∷ []) [] c.args.tokens.now e.left e.refusal)) (sym c.in-Imp.is) c.read_up_to-in-Imp.ensures.refused

pub read_operand-returns-in-Or-clause-found : goal.read_operand-returns-in-Or-clause-found
read_operand-returns-in-Or-clause-found t c = subst (λ l. IfOk c.read_up_to-in-Or.result (λ r. ReaderFinds (part (operand l) c.args.depth) c.args.tokens.now (one (plain r.0.value)) r.1.now)) (sym c.in-Or.is) c.read_up_to-in-Or.ensures.found

pub read_operand-returns-in-Or-clause-refused : goal.read_operand-returns-in-Or-clause-refused
read_operand-returns-in-Or-clause-refused t c = subst (λ l. IfErr c.read_up_to-in-Or.result (λ e. Fails (part (operand l) c.args.depth ∷ []) [] c.args.tokens.now e.left e.refusal)) (sym c.in-Or.is) c.read_up_to-in-Or.ensures.refused

pub read_operand-returns-in-And-clause-found : goal.read_operand-returns-in-And-clause-found
read_operand-returns-in-And-clause-found t c = subst (λ l. IfOk c.read_up_to-in-And.result (λ r. ReaderFinds (part (operand l) c.args.depth) c.args.tokens.now (one (plain r.0.value)) r.1.now)) (sym c.in-And.is) c.read_up_to-in-And.ensures.found

pub read_operand-returns-in-And-clause-refused : goal.read_operand-returns-in-And-clause-refused
read_operand-returns-in-And-clause-refused t c = subst (λ l. IfErr c.read_up_to-in-And.result (λ e. Fails (part (operand l) c.args.depth ∷ []) [] c.args.tokens.now e.left e.refusal)) (sym c.in-And.is) c.read_up_to-in-And.ensures.refused

pub read_operand-returns-in-Sum-clause-found : goal.read_operand-returns-in-Sum-clause-found
read_operand-returns-in-Sum-clause-found t c = subst (λ l. IfOk c.read_up_to-in-Sum.result (λ r. ReaderFinds (part (operand l) c.args.depth) c.args.tokens.now (one (plain r.0.value)) r.1.now)) (sym c.in-Sum.is) c.read_up_to-in-Sum.ensures.found

pub read_operand-returns-in-Sum-clause-refused : goal.read_operand-returns-in-Sum-clause-refused
read_operand-returns-in-Sum-clause-refused t c = subst (λ l. IfErr c.read_up_to-in-Sum.result (λ e. Fails (part (operand l) c.args.depth ∷ []) [] c.args.tokens.now e.left e.refusal)) (sym c.in-Sum.is) c.read_up_to-in-Sum.ensures.refused

pub read_operand-returns-in-Term-clause-found : goal.read_operand-returns-in-Term-clause-found
read_operand-returns-in-Term-clause-found t c = subst (λ l. IfOk c.read_primary.result (λ r. ReaderFinds (part (operand l) c.args.depth) c.args.tokens.now (one (plain r.0.value)) r.1.now)) (sym c.in-Term.is) c.read_primary.ensures.found

pub read_operand-returns-in-Term-clause-refused : goal.read_operand-returns-in-Term-clause-refused
read_operand-returns-in-Term-clause-refused t c = subst (λ l. IfErr c.read_primary.result (λ e. Fails (part (operand l) c.args.depth ∷ []) [] c.args.tokens.now e.left e.refusal)) (sym c.in-Term.is) c.read_primary.ensures.refused

pub read_expression-returns-then-is_word-clause-found : goal.read_expression-returns-then-is_word-clause-found
read_expression-returns-then-is_word-clause-found t c = subst (λ ts. IfOk c.read_choice.result (λ r. ReaderFinds (part expr c.args.depth) ts (one (plain r.0.value)) r.1.now)) (sym c.first_of.ensures) c.read_choice.ensures.found

pub read_expression-returns-then-is_word-clause-refused : goal.read_expression-returns-then-is_word-clause-refused
read_expression-returns-then-is_word-clause-refused t c = subst (λ ts. IfErr c.read_choice.result (λ e. Fails (part expr c.args.depth ∷ []) [] ts e.left e.refusal)) (sym c.first_of.ensures) c.read_choice.ensures.refused

pub read_primary-returns-in-Some-test_in-clause-found : goal.read_primary-returns-in-Some-test_in-clause-found
read_primary-returns-in-Some-test_in-clause-found t c = subst (λ ts. IfOk c.read_asked.result (λ r. ReaderFinds (part primary c.args.depth) ts (one (plain r.0.value)) r.1.now)) (sym c.first_of.ensures) c.read_asked.ensures.found

pub read_primary-returns-in-Some-test_in-clause-refused : goal.read_primary-returns-in-Some-test_in-clause-refused
read_primary-returns-in-Some-test_in-clause-refused t c = subst (λ ts. IfErr c.read_asked.result (λ e. Fails (part primary c.args.depth ∷ []) [] ts e.left e.refusal)) (sym c.first_of.ensures) c.read_asked.ensures.refused

pub read_primary-returns-then-is_word-clause-found : goal.read_primary-returns-then-is_word-clause-found
read_primary-returns-then-is_word-clause-found t c = subst (λ ts. IfOk c.read_waited.result (λ r. ReaderFinds (part primary c.args.depth) ts (one (plain r.0.value)) r.1.now)) (sym c.first_of.ensures) c.read_waited.ensures.found

pub read_primary-returns-then-is_word-clause-refused : goal.read_primary-returns-then-is_word-clause-refused
read_primary-returns-then-is_word-clause-refused t c = subst (λ ts. IfErr c.read_waited.result (λ e. Fails (part primary c.args.depth ∷ []) [] ts e.left e.refusal)) (sym c.first_of.ensures) c.read_waited.ensures.refused

pub read_primary-returns-then-is_symbol-clause-found : goal.read_primary-returns-then-is_symbol-clause-found
read_primary-returns-then-is_symbol-clause-found t c = subst (λ ts. IfOk c.read_group.result (λ r. ReaderFinds (part primary c.args.depth) ts (one (plain r.0.value)) r.1.now)) (sym c.first_of.ensures) c.read_group.ensures.found

pub read_primary-returns-then-is_symbol-clause-refused : goal.read_primary-returns-then-is_symbol-clause-refused
read_primary-returns-then-is_symbol-clause-refused t c = subst (λ ts. IfErr c.read_group.result (λ e. Fails (part primary c.args.depth ∷ []) [] ts e.left e.refusal)) (sym c.first_of.ensures) c.read_group.ensures.refused

pub read_up_to-returns-in_err-left-clause-refused : goal.read_up_to-returns-in_err-left-clause-refused
read_up_to-returns-in_err-left-clause-refused t c = if_err_left _ _ _ c.from_residual.ensures.1 (steps_fail_first _ _ _ _ _ _ _ _ c.first_of.ensures c.start_of-start.ensures c.in_err-left.ensures.refused)

pub read_up_to-steps-init : goal.read_up_to-steps-init
read_up_to-steps-init t c = steps_begin _ _ _ _ _ _ _ _ _ c.first_of.ensures c.start_of-start.ensures c.steps-step-items.ensures c.in_ok-left.ensures.found

pub read_up_to-steps-preserved : goal.read_up_to-steps-preserved
read_up_to-steps-preserved t c = steps_go_on _ _ _ _ _ c.steps.step-index _ _ _ _ _ c.steps-test.true refl c.steps.invariant c.in_ok-whole.ensures.found

pub read_up_to-returns-in_err-whole-clause-refused : goal.read_up_to-returns-in_err-whole-clause-refused
read_up_to-returns-in_err-whole-clause-refused t c = if_err_left _ _ _ c.from_residual-in_err-whole.ensures.1 (steps_fail _ _ _ _ _ c.steps.step-index _ _ _ _ _ c.steps-test.true refl c.steps.invariant c.in_err-whole.ensures.refused)

pub read_up_to-returns-clause-found : goal.read_up_to-returns-clause-found
read_up_to-returns-clause-found t c = steps_done _ _ _ _ _ c.steps.step-index _ c.steps-test.false c.steps.invariant

pub read_not-returns-in_err-inner-clause-refused : goal.read_not-returns-in_err-inner-clause-refused
read_not-returns-in_err-inner-clause-refused t c = if_err_left _ _ _ c.from_residual.ensures.1 (not_too_deep _ _ _ _ _ c.requires.word c.in_err-inner.ensures.deep.0 c.in_err-inner.ensures.deep.1 c.in_err-inner.ensures.deep.2)

pub read_not-returns-in_err-operand-clause-refused : goal.read_not-returns-in_err-operand-clause-refused
read_not-returns-in_err-operand-clause-refused t c = if_err_left _ _ _ c.from_residual-in_err-operand.ensures.1 (failing (not_starts _ _ _ _ c.requires.word c.in_ok-inner.ensures.opens.0 c.in_ok-inner.ensures.opens.1) c.in_err-operand.ensures.refused)

pub read_not-returns-in_err-negated-clause-refused : goal.read_not-returns-in_err-negated-clause-refused
read_not-returns-in_err-negated-clause-refused t c = no_memory _ _ _ _ _ c.from_residual-in_err-negated.ensures.1 c.in_err-negated.ensures.memory

pub read_not-returns-clause-found : goal.read_not-returns-clause-found
read_not-returns-clause-found t c = done (making (via (not_starts _ _ _ _ c.requires.word c.in_ok-inner.ensures.opens.0 c.in_ok-inner.ensures.opens.1) c.in_ok-operand.ensures.found) (λ vs. refl)) (ap one c.in_ok-negated.ensures.built) (rest_cons c.in_ok-operand.ensures.found.behind)

pub read_signed-returns-in_err-operand-clause-refused : goal.read_signed-returns-in_err-operand-clause-refused
read_signed-returns-in_err-operand-clause-refused t c = if_err_left _ _ _ c.from_residual.ensures.1 (failing (sign_starts levels.Sum _ _ _ _ refl c.requires.sign) c.in_err-operand.ensures.refused)

pub read_signed-returns-in_err-signed-clause-refused : goal.read_signed-returns-in_err-signed-clause-refused
read_signed-returns-in_err-signed-clause-refused t c = no_memory _ _ _ _ _ c.from_residual-in_err-signed.ensures.1 c.in_err-signed.ensures.memory

pub read_signed-returns-clause-found : goal.read_signed-returns-clause-found
read_signed-returns-clause-found t c = begins_signed _ _ _ _ _ (making (via (sign_starts levels.Sum _ _ _ _ refl c.requires.sign) c.in_ok-operand.ensures.found) (λ vs. refl)) (ap one c.in_ok-signed.ensures.built) (rest_cons c.in_ok-operand.ensures.found.behind)

pub read_relation-returns-in_err-right-in-Some-clause-refused : goal.read_relation-returns-in_err-right-in-Some-clause-refused
read_relation-returns-in_err-right-in-Some-clause-refused t c = if_err_left _ _ _ c.from_residual.ensures.1 (relation_fails _ _ _ _ _ c.first_of.ensures _ _ _ (sym c.relation.ensures ∙ c.in-Some.is) c.in_err-right-in-Some.ensures.refused)

pub read_relation-returns-in_err-two-in-Some-clause-refused : goal.read_relation-returns-in_err-two-in-Some-clause-refused
read_relation-returns-in_err-two-in-Some-clause-refused t c = no_memory _ _ _ _ _ c.from_residual-in_err-two-in-Some.ensures.1 c.in_err-two-in-Some.ensures.memory

pub read_relation-returns-in_ok-two-in-Some-clause-found : goal.read_relation-returns-in_ok-two-in-Some-clause-found
read_relation-returns-in_ok-two-in-Some-clause-found t c = relation_found _ _ _ _ _ c.first_of.ensures _ _ _ _ (sym c.relation.ensures ∙ c.in-Some.is) c.in_ok-right-in-Some.ensures.found c.in_ok-two-in-Some.ensures.built

pub read_relation-returns-in-None-clause-found : goal.read_relation-returns-in-None-clause-found
read_relation-returns-in-None-clause-found t c = no_relation _ _ _ _ _ c.first_of.ensures (sym c.relation.ensures ∙ c.in-None.is) c.requires.ended

pub read_step-returns-in-Operators-clause-found : goal.read_step-returns-in-Operators-clause-found
read_step-returns-in-Operators-clause-found t c = subst (λ s. IfOk c.read_more.result (λ r. Extends (due_of c.args.depth s) c.args.tokens.now (one (plain c.args.left.value)) (one (plain r.0.value)) r.1.now)) (sym c.in-Operators.is) c.read_more.ensures.found

pub read_step-returns-in-Operators-clause-refused : goal.read_step-returns-in-Operators-clause-refused
read_step-returns-in-Operators-clause-refused t c = subst (λ s. IfErr c.read_more.result (λ e. Fails (due_of c.args.depth s ∷ []) (one (plain c.args.left.value) ∷ []) c.args.tokens.now e.left e.refusal)) (sym c.in-Operators.is) c.read_more.ensures.refused

pub read_step-returns-in-Relation-clause-found : goal.read_step-returns-in-Relation-clause-found
read_step-returns-in-Relation-clause-found t c = subst (λ s. IfOk c.read_relation.result (λ r. Extends (due_of c.args.depth s) c.args.tokens.now (one (plain c.args.left.value)) (one (plain r.0.value)) r.1.now)) (sym c.in-Relation.is) c.read_relation.ensures.found

pub read_step-returns-in-Relation-clause-refused : goal.read_step-returns-in-Relation-clause-refused
read_step-returns-in-Relation-clause-refused t c = subst (λ s. IfErr c.read_relation.result (λ e. Fails (due_of c.args.depth s ∷ []) (one (plain c.args.left.value) ∷ []) c.args.tokens.now e.left e.refusal)) (sym c.in-Relation.is) c.read_relation.ensures.refused

pub read_beginning-returns-in-Not-clause-found : goal.read_beginning-returns-in-Not-clause-found
read_beginning-returns-in-Not-clause-found t c = IfOk-weaker c.read_not.result _ _ (λ x f. begins_so _ _ _ _ _ _ _ c.in-Not.is c.first_of.ensures (begins_not _ _ _ _ f)) c.read_not.ensures.found

pub read_beginning-returns-in-Not-clause-refused : goal.read_beginning-returns-in-Not-clause-refused
read_beginning-returns-in-Not-clause-refused t c = if_err c.read_not.result _ _ (λ x f. fails_so _ _ _ _ _ _ _ c.in-Not.is c.first_of.ensures f) c.read_not.ensures.refused

pub read_beginning-returns-in-Sign-clause-found : goal.read_beginning-returns-in-Sign-clause-found
read_beginning-returns-in-Sign-clause-found t c = IfOk-weaker c.read_signed.result _ _ (λ x f. begins_so _ _ _ _ _ _ _ c.in-Sign.is c.first_of.ensures f) c.read_signed.ensures.found

pub read_beginning-returns-in-Sign-clause-refused : goal.read_beginning-returns-in-Sign-clause-refused
read_beginning-returns-in-Sign-clause-refused t c = if_err c.read_signed.result _ _ (λ x f. fails_so _ _ _ _ _ _ _ c.in-Sign.is c.first_of.ensures f) c.read_signed.ensures.refused

pub read_beginning-returns-in-Primary-clause-found : goal.read_beginning-returns-in-Primary-clause-found
read_beginning-returns-in-Primary-clause-found t c = IfOk-weaker c.read_primary.result _ _ (λ x f. begins_so _ _ _ _ _ _ _ c.in-Primary.is refl (begins_primary _ _ _ _ f)) c.read_primary.ensures.found

pub read_beginning-returns-in-Primary-clause-refused : goal.read_beginning-returns-in-Primary-clause-refused
read_beginning-returns-in-Primary-clause-refused t c = if_err c.read_primary.result _ _ (λ x f. fails_so _ _ _ _ _ _ _ c.in-Primary.is refl f) c.read_primary.ensures.refused
