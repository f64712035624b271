use Rattle.std.proofs.Common.{[], ◌∷◌, ◌++◌, length, refl, sym, ap, ◌∙◌, arith, Some, None}
use Rattle.algol_expr.proofs.Chain.{completing, extending, making, past, rest_of}
use Rattle.algol_expr.proofs.Arms.{started}
use Rattle.algol_part.proofs.Chains.{adding, behind_it, behind_symbol, behind_word, bringing, brought, failing, listed, listing, makes_it, no_memory, refuses_here, refusing, refusing_all, refusing_on, rest_on, rest_within, skips_it, takes_all, takes_it, then, valued}
use Rattle.algol_part.proofs.Loops.{goes_on, one_decl, one_stmt, goes_to, goes_as, refused_as_other, extends_all}
use Rattle.algol_part.proofs.Tails.{lists_by, lists_here, refuses_on}
use Rattle.algol_part.proofs.Begun.{body_refuses, body_starts, body_too_deep, else_off, else_on, forward_takes, more_stmts, none_declared, procedure_declared, stmts_off, stmts_on, type_declared, typed_arrays, typed_list, typed_procedure}
use Rattle.algol_part.proofs.Openings.{ending, is_open, is_whole, led_is_made, opened_as, opened_found, opened_refused, refused_as}
use Rattle.algol_part.specs.Openings.{led, led_by, still_due}
use Rattle.algol_part.specs.Phrases.{arrays_in, simples_in, statements_in}
use Rattle.algol_part.proofs.Specs.{not_end_type}
use Rattle.algol_tree.specs.DueStmt.{decl_behind, procedure_in}
use Rattle.algol_tree.specs.Plain.{no_decls}
use Rattle.algol_tree.specs.declared.token.Symbol.TheVariants as symbols
use Rattle.algol_tree.specs.declared.token.Reserved.TheVariants as reserved
use Rattle.algol_tree.specs.Due as due
use Rattle.algol_tree.specs.Image as image
use Rattle.algol_tree.specs.Plain as trees
use Rattle.algol_part.specs.declared.opening.Opening.TheVariants as openings
use Rattle.b67_list.proofs.Answered.{if_err_left}
use Rattle.algol_stmt.specs.Begun.{opening_of, beginning_of}
use Rattle.algol_stmt.proofs.Closing.{closes_found, closes_refused}
use Rattle.algol_stmt.proofs.statement.+statements.Goals as goal

pub read_statement-returns-in_err-begun-clause-refused : goal.read_statement-returns-in_err-begun-clause-refused
read_statement-returns-in_err-begun-clause-refused t c = if_err_left _ _ _ c.from_residual.ensures.1 c.in_err-begun.ensures.refused

pub read_statement-returns-in-Whole-clause-found : goal.read_statement-returns-in-Whole-clause-found
read_statement-returns-in-Whole-clause-found t c = is_whole (ap beginning_of c.in-Whole.is) c.in_ok-begun.ensures.found

pub read_statement-returns-in-Open-clause-found : goal.read_statement-returns-in-Open-clause-found
read_statement-returns-in-Open-clause-found t c = opened_found c.read_opened.result (λ x. due.stmt (image.stmt x.0.value)) (λ x. x.1.now) (is_open (ap beginning_of c.in-Open.is) c.in_ok-begun.ensures.found) c.read_opened.ensures.found

pub read_statement-returns-in-Open-clause-refused : goal.read_statement-returns-in-Open-clause-refused
read_statement-returns-in-Open-clause-refused t c = opened_refused c.read_opened.result (is_open (ap beginning_of c.in-Open.is) c.in_ok-begun.ensures.found) c.read_opened.ensures.refused

pub read_led-returns-in_err-statement-clause-refused : goal.read_led-returns-in_err-statement-clause-refused
read_led-returns-in_err-statement-clause-refused t c = if_err_left _ _ _ c.from_residual.ensures.1 (refusing (started (still_due (openings.Led c.args.lead.value) c.args.depth) (led_by c.args.lead.value) _) c.in_err-statement.ensures.refused)

pub read_led-returns-in_err-led-clause-refused : goal.read_led-returns-in_err-led-clause-refused
read_led-returns-in_err-led-clause-refused t c = if_err_left _ _ _ c.from_residual-in_err-led.ensures.1 (no_memory c.in_err-led.ensures.memory)

pub read_led-returns-clause-found : goal.read_led-returns-clause-found
read_led-returns-clause-found t c = ending (making {xs = due.stmt (led c.args.lead.value _) ∷ []} (completing (started (still_due (openings.Led c.args.lead.value) c.args.depth) (led_by c.args.lead.value) _) c.in_ok-statement.ensures.found) (λ vs. led_is_made c.args.lead.value _ vs)) (ap due.stmt c.in_ok-led.ensures.built) c.in_ok-statement.ensures.found.ended c.in_ok-statement.ensures.found.no_longer

pub read_block-returns-in_err-decls-clause-refused : goal.read_block-returns-in_err-decls-clause-refused
read_block-returns-in_err-decls-clause-refused t c = if_err_left _ _ _ c.from_residual.ensures.1 (refusing_on _ {ws = []} (making {xs = due.declared no_decls ∷ []} (started (still_due (openings.Begin c.args.spot) c.args.depth) [] _) (λ vs. refl)) c.in_err-decls.ensures.refused)

pub read_block-returns-in_err-stmts-clause-refused : goal.read_block-returns-in_err-stmts-clause-refused
read_block-returns-in_err-stmts-clause-refused t c = if_err_left _ _ _ c.from_residual-in_err-stmts.ensures.1 (refusing_all _ {ws = _ ∷ []} (extending {ws = []} (making {xs = due.declared no_decls ∷ []} (started (still_due (openings.Begin c.args.spot) c.args.depth) [] _) (λ vs. refl)) c.in_ok-decls.ensures.found) c.in_err-stmts.ensures.refused)

pub read_block-returns-in_err-block-clause-refused : goal.read_block-returns-in_err-block-clause-refused
read_block-returns-in_err-block-clause-refused t c = if_err_left _ _ _ c.from_residual-in_err-block.ensures.1 (no_memory c.in_err-block.ensures.memory)

pub read_block-returns-clause-found : goal.read_block-returns-clause-found
read_block-returns-clause-found t c = let b = rest_within c.in_ok-decls.ensures.found.no_longer c.in_ok-stmts.ensures.found.behind in ending (making (bringing {ws = _ ∷ []} (extending {ws = []} (making {xs = due.declared no_decls ∷ []} (started (still_due (openings.Begin c.args.spot) c.args.depth) [] _) (λ vs. refl)) c.in_ok-decls.ensures.found) c.in_ok-stmts.ensures.found) (λ vs. refl)) (ap due.stmt c.in_ok-block.ensures.built) b.ended (omega (arith, b.shorter))

pub read_opened-returns-in-Led-clause-found : goal.read_opened-returns-in-Led-clause-found
read_opened-returns-in-Led-clause-found t c = opened_as c.read_led.result (λ x. due.stmt (image.stmt x.0.value)) (λ x. x.1.now) (ap opening_of c.in-Led.is) c.args.depth _ c.read_led.ensures.found

pub read_opened-returns-in-Led-clause-refused : goal.read_opened-returns-in-Led-clause-refused
read_opened-returns-in-Led-clause-refused t c = refused_as c.read_led.result (ap opening_of c.in-Led.is) c.args.depth _ c.read_led.ensures.refused

pub read_opened-returns-in-Begin-clause-found : goal.read_opened-returns-in-Begin-clause-found
read_opened-returns-in-Begin-clause-found t c = opened_as c.read_block.result (λ x. due.stmt (image.stmt x.0.value)) (λ x. x.1.now) (ap opening_of c.in-Begin.is) c.args.depth _ c.read_block.ensures.found

pub read_opened-returns-in-Begin-clause-refused : goal.read_opened-returns-in-Begin-clause-refused
read_opened-returns-in-Begin-clause-refused t c = refused_as c.read_block.result (ap opening_of c.in-Begin.is) c.args.depth _ c.read_block.ensures.refused

pub read_opened-returns-in-Do-clause-found : goal.read_opened-returns-in-Do-clause-found
read_opened-returns-in-Do-clause-found t c = opened_as c.read_repeated.result (λ x. due.stmt (image.stmt x.0.value)) (λ x. x.1.now) (ap opening_of c.in-Do.is) c.args.depth _ c.read_repeated.ensures.found

pub read_opened-returns-in-Do-clause-refused : goal.read_opened-returns-in-Do-clause-refused
read_opened-returns-in-Do-clause-refused t c = refused_as c.read_repeated.result (ap opening_of c.in-Do.is) c.args.depth _ c.read_repeated.ensures.refused

pub read_opened-returns-in-Case-clause-found : goal.read_opened-returns-in-Case-clause-found
read_opened-returns-in-Case-clause-found t c = opened_as c.read_cases.result (λ x. due.stmt (image.stmt x.0.value)) (λ x. x.1.now) (ap opening_of c.in-Case.is) c.args.depth _ c.read_cases.ensures.found

pub read_opened-returns-in-Case-clause-refused : goal.read_opened-returns-in-Case-clause-refused
read_opened-returns-in-Case-clause-refused t c = refused_as c.read_cases.result (ap opening_of c.in-Case.is) c.args.depth _ c.read_cases.ensures.refused

pub read_opened-returns-in-If-clause-found : goal.read_opened-returns-in-If-clause-found
read_opened-returns-in-If-clause-found t c = opened_as c.read_arms.result (λ x. due.stmt (image.stmt x.0.value)) (λ x. x.1.now) (ap opening_of c.in-If.is) c.args.depth _ c.read_arms.ensures.found

pub read_opened-returns-in-If-clause-refused : goal.read_opened-returns-in-If-clause-refused
read_opened-returns-in-If-clause-refused t c = refused_as c.read_arms.result (ap opening_of c.in-If.is) c.args.depth _ c.read_arms.ensures.refused

pub read_repeated-returns-in_err-body-clause-refused : goal.read_repeated-returns-in_err-body-clause-refused
read_repeated-returns-in_err-body-clause-refused t c = if_err_left _ _ _ c.from_residual.ensures.1 (refusing (started (still_due openings.Do c.args.depth) [] _) c.in_err-body.ensures.refused)

pub read_repeated-returns-in_err-end-clause-refused : goal.read_repeated-returns-in_err-end-clause-refused
read_repeated-returns-in_err-end-clause-refused t c = if_err_left _ _ _ c.from_residual-in_err-end.ensures.1 (refusing_all _ (completing (started (still_due openings.Do c.args.depth) [] _) c.in_ok-body.ensures.found) c.in_err-end.ensures.refused)

pub read_repeated-returns-in_err-repeating-clause-refused : goal.read_repeated-returns-in_err-repeating-clause-refused
read_repeated-returns-in_err-repeating-clause-refused t c = if_err_left _ _ _ c.from_residual-in_err-repeating.ensures.1 (no_memory c.in_err-repeating.ensures.memory)

pub read_repeated-returns-clause-found : goal.read_repeated-returns-clause-found
read_repeated-returns-clause-found t c = let b = rest_within c.in_ok-body.ensures.found.no_longer c.in_ok-end.ensures.found.behind in ending (making (bringing (completing (started (still_due openings.Do c.args.depth) [] _) c.in_ok-body.ensures.found) c.in_ok-end.ensures.found) (λ vs. refl)) (ap due.stmt c.in_ok-repeating.ensures.built) b.ended (omega (arith, b.shorter))

pub read_cases-returns-in_err-cases-clause-refused : goal.read_cases-returns-in_err-cases-clause-refused
read_cases-returns-in_err-cases-clause-refused t c = if_err_left _ _ _ c.from_residual.ensures.1 (refusing_all _ (started (still_due (openings.Case c.args.choice.value) c.args.depth) (due.one (image.expr c.args.choice.value) ∷ []) _) c.in_err-cases.ensures.refused)

pub read_cases-returns-in_err-choosing-clause-refused : goal.read_cases-returns-in_err-choosing-clause-refused
read_cases-returns-in_err-choosing-clause-refused t c = if_err_left _ _ _ c.from_residual-in_err-choosing.ensures.1 (no_memory c.in_err-choosing.ensures.memory)

pub read_cases-returns-clause-found : goal.read_cases-returns-clause-found
read_cases-returns-clause-found t c = let b = c.in_ok-cases.ensures.found.behind in ending (making (bringing (started (still_due (openings.Case c.args.choice.value) c.args.depth) (due.one (image.expr c.args.choice.value) ∷ []) _) c.in_ok-cases.ensures.found) (λ vs. refl)) (ap due.stmt c.in_ok-choosing.ensures.built) b.ended (omega (arith, b.shorter))

pub read_arms-returns-in_err-yes-clause-refused : goal.read_arms-returns-in_err-yes-clause-refused
read_arms-returns-in_err-yes-clause-refused t c = if_err_left _ _ _ c.from_residual.ensures.1 (refusing (started (due.statement c.args.depth ∷ due.else_part c.args.depth ∷ []) (due.one (image.expr c.args.condition.value) ∷ []) _) c.in_err-yes.ensures.refused)

pub read_arms-returns-in_err-otherwise-clause-refused : goal.read_arms-returns-in_err-otherwise-clause-refused
read_arms-returns-in_err-otherwise-clause-refused t c = if_err_left _ _ _ c.from_residual-in_err-otherwise.ensures.1 (refusing (then (completing (started (due.statement c.args.depth ∷ due.else_part c.args.depth ∷ []) (due.one (image.expr c.args.condition.value) ∷ []) _) c.in_ok-yes.ensures.found) (takes_it c.first_of.ensures (due.else_part c.args.depth) _ {ds = []} (else_on _ c.first_of.ensures (sym c.is_word.ensures ∙ c.if-is_word.true)))) c.in_err-otherwise.ensures.refused)

pub read_arms-returns-in_err-two_armed-clause-refused : goal.read_arms-returns-in_err-two_armed-clause-refused
read_arms-returns-in_err-two_armed-clause-refused t c = if_err_left _ _ _ c.from_residual-in_err-two_armed.ensures.1 (no_memory c.in_err-two_armed.ensures.memory)

pub read_arms-returns-in_ok-two_armed-clause-found : goal.read_arms-returns-in_ok-two_armed-clause-found
read_arms-returns-in_ok-two_armed-clause-found t c = let b = behind_word c.first_of.ensures reserved.Else c.in_ok-yes.ensures.found.ended (sym c.is_word.ensures ∙ c.if-is_word.true) in ending (making (completing (then (completing (started (due.statement c.args.depth ∷ due.else_part c.args.depth ∷ []) (due.one (image.expr c.args.condition.value) ∷ []) _) c.in_ok-yes.ensures.found) (takes_it c.first_of.ensures (due.else_part c.args.depth) _ {ds = []} (else_on _ c.first_of.ensures (sym c.is_word.ensures ∙ c.if-is_word.true)))) c.in_ok-otherwise.ensures.found) (λ vs. refl)) (ap due.stmt c.in_ok-two_armed.ensures.built) c.in_ok-otherwise.ensures.found.ended (omega (arith, b.shorter, c.in_ok-yes.ensures.found.no_longer, c.in_ok-otherwise.ensures.found.no_longer))

pub read_arms-returns-in_err-one_armed-clause-refused : goal.read_arms-returns-in_err-one_armed-clause-refused
read_arms-returns-in_err-one_armed-clause-refused t c = if_err_left _ _ _ c.from_residual-in_err-one_armed.ensures.1 (no_memory c.in_err-one_armed.ensures.memory)

pub read_arms-returns-in_ok-one_armed-clause-found : goal.read_arms-returns-in_ok-one_armed-clause-found
read_arms-returns-in_ok-one_armed-clause-found t c = ending (making (then (completing (started (due.statement c.args.depth ∷ due.else_part c.args.depth ∷ []) (due.one (image.expr c.args.condition.value) ∷ []) _) c.in_ok-yes.ensures.found) (makes_it c.first_of.ensures (due.else_part c.args.depth) _ {ds = []} (else_off _ c.first_of.ensures (sym c.is_word.ensures ∙ c.if-is_word.false)))) (λ vs. refl)) (ap due.stmt c.in_ok-one_armed.ensures.built) c.in_ok-yes.ensures.found.ended c.in_ok-yes.ensures.found.no_longer

pub read_statements-statements-init : goal.read_statements-statements-init
read_statements-statements-init t c = goes_on (making (started (statements_in c.args.depth) [] _) (λ vs. ap (λ xs. due.list (image.stmts xs) ∷ vs) (sym c.new-stmts.ensures.items))) c.requires.ended

pub read_statements-returns-in_err-statement-clause-refused : goal.read_statements-returns-in_err-statement-clause-refused
read_statements-returns-in_err-statement-clause-refused t c = if_err_left _ _ _ c.from_residual.ensures.1 (refusing c.statements.invariant.run c.in_err-statement.ensures.refused)

pub read_statements-statements-preserved : goal.read_statements-statements-preserved
read_statements-statements-preserved t c = let b = behind_symbol c.first_of.ensures symbols.Semicolon c.in_ok-statement.ensures.found.ended (sym c.is_symbol.ensures ∙ c.if-is_symbol.true) in record { run = then (making {xs = due.list (image.stmts _) ∷ []} (completing c.statements.invariant.run c.in_ok-statement.ensures.found) (λ vs. ap (λ ss. due.list ss ∷ vs) (one_stmt _ _ _ c.in_ok-add.ensures.added))) (takes_it c.first_of.ensures (due.stmts_more c.args.depth) (more_stmts c.args.depth) {ds = (due.word reserved.End ∷ [])} (stmts_on c.args.depth c.first_of.ensures (sym c.is_symbol.ensures ∙ c.if-is_symbol.true))); ended = b.ended; no_longer = omega (arith, c.statements.invariant.no_longer, c.in_ok-statement.ensures.found.no_longer, b.shorter) }

pub read_statements-returns-in_err-add-clause-refused : goal.read_statements-returns-in_err-add-clause-refused
read_statements-returns-in_err-add-clause-refused t c = if_err_left _ _ _ c.from_residual-in_err-add.ensures.1 (no_memory c.in_err-add.ensures.memory)

pub read_statements-returns-in_err-rest-clause-refused : goal.read_statements-returns-in_err-rest-clause-refused
read_statements-returns-in_err-rest-clause-refused t c = if_err_left _ _ _ c.from_residual-in_err-rest.ensures.1 (failing {ds = []} {ws = due.list _ ∷ []} (then (making {xs = due.list (image.stmts _) ∷ []} (completing c.statements.invariant.run c.in_ok-statement.ensures.found) (λ vs. ap (λ ss. due.list ss ∷ vs) (one_stmt _ _ _ c.in_ok-add.ensures.added))) (skips_it c.first_of.ensures (due.stmts_more c.args.depth) {ds = (due.word reserved.End ∷ [])} (stmts_off c.args.depth c.first_of.ensures (sym c.is_symbol.ensures ∙ c.if-is_symbol.false)))) c.in_err-rest.ensures.fails)

pub read_statements-returns-else-is_symbol-clause-found : goal.read_statements-returns-else-is_symbol-clause-found
read_statements-returns-else-is_symbol-clause-found t c = brought (past {ds = []} {ws = due.list _ ∷ []} (then (making {xs = due.list (image.stmts _) ∷ []} (completing c.statements.invariant.run c.in_ok-statement.ensures.found) (λ vs. ap (λ ss. due.list ss ∷ vs) (one_stmt _ _ _ c.in_ok-add.ensures.added))) (skips_it c.first_of.ensures (due.stmts_more c.args.depth) {ds = (due.word reserved.End ∷ [])} (stmts_off c.args.depth c.first_of.ensures (sym c.is_symbol.ensures ∙ c.if-is_symbol.false)))) c.in_ok-rest.ensures.passes) (ap (λ xs. due.list (image.stmts xs)) c.of.ensures) (record { ended = c.in_ok-rest.ensures.passes.behind.ended; shorter = omega (arith, c.statements.invariant.no_longer, c.in_ok-statement.ensures.found.no_longer, c.in_ok-rest.ensures.passes.behind.shorter) })

pub read_typed-returns-in_err-procedure-clause-refused : goal.read_typed-returns-in_err-procedure-clause-refused
read_typed-returns-in_err-procedure-clause-refused t c = if_err_left _ _ _ c.from_residual.ensures.1 (refusing_on [] {ws = []} (takes_all c.first_of.ensures (due.typed c.args.kind c.args.depth) (procedure_in (Some c.args.kind) c.args.depth) {us = due.declared (image.decls _) ∷ []} (typed_procedure c.args.kind c.args.depth c.first_of.ensures (sym c.is_word.ensures ∙ c.if-is_word.true))) (c.in_err-procedure.ensures.refused _))

pub read_typed-returns-in_ok-push-clause-found : goal.read_typed-returns-in_ok-push-clause-found
read_typed-returns-in_ok-push-clause-found t c = listed (valued {ws = []} (adding {ds = []} {ws = []} (takes_all c.first_of.ensures (due.typed c.args.kind c.args.depth) (procedure_in (Some c.args.kind) c.args.depth) {us = due.declared (image.decls _) ∷ []} (typed_procedure c.args.kind c.args.depth c.first_of.ensures (sym c.is_word.ensures ∙ c.if-is_word.true))) c.in_ok-procedure.ensures.found) (ap due.declared (sym (one_decl _ _ _ c.in_ok-push.ensures.items)))) refl (rest_of (behind_word c.first_of.ensures reserved.Procedure c.requires.ended (sym c.is_word.ensures ∙ c.if-is_word.true)) c.in_ok-procedure.ensures.found.behind)

pub read_typed-returns-then-is_word-2-clause-found : goal.read_typed-returns-then-is_word-2-clause-found
read_typed-returns-then-is_word-2-clause-found t c = lists_by c.read_arrays.result _ _ (λ x. x.now) (arrays_in c.args.kind) (behind_word c.first_of.ensures reserved.Array c.requires.ended (sym c.is_word-else-is_word.ensures ∙ c.if-is_word-2.true)) (takes_all c.first_of.ensures (due.typed c.args.kind c.args.depth) (arrays_in c.args.kind) {us = due.declared (image.decls _) ∷ []} (typed_arrays c.args.kind c.args.depth c.first_of.ensures (sym c.is_word-else-is_word.ensures ∙ c.if-is_word-2.true))) c.read_arrays.ensures.found

pub read_typed-returns-then-is_word-2-clause-refused : goal.read_typed-returns-then-is_word-2-clause-refused
read_typed-returns-then-is_word-2-clause-refused t c = refuses_on c.read_arrays.result (arrays_in c.args.kind) {ws = []} (takes_all c.first_of.ensures (due.typed c.args.kind c.args.depth) (arrays_in c.args.kind) {us = due.declared (image.decls _) ∷ []} (typed_arrays c.args.kind c.args.depth c.first_of.ensures (sym c.is_word-else-is_word.ensures ∙ c.if-is_word-2.true))) c.read_arrays.ensures.refused

pub read_typed-returns-else-is_word-2-clause-found : goal.read_typed-returns-else-is_word-2-clause-found
read_typed-returns-else-is_word-2-clause-found t c = lists_here c.read_simples.result _ _ (λ x. x.now) (simples_in c.args.kind) (typed_list c.args.kind c.args.depth (due.declared (image.decls _) ∷ []) c.first_of.ensures (sym c.is_word.ensures ∙ c.if-is_word.false) (sym c.is_word-else-is_word.ensures ∙ c.if-is_word-2.false)) c.read_simples.ensures.found

pub read_typed-returns-else-is_word-2-clause-refused : goal.read_typed-returns-else-is_word-2-clause-refused
read_typed-returns-else-is_word-2-clause-refused t c = refuses_on c.read_simples.result (simples_in c.args.kind) {ws = []} (typed_list c.args.kind c.args.depth (due.declared (image.decls _) ∷ []) c.first_of.ensures (sym c.is_word.ensures ∙ c.if-is_word.false) (sym c.is_word-else-is_word.ensures ∙ c.if-is_word-2.false)) c.read_simples.ensures.refused

pub read_declarations-declarations-init : goal.read_declarations-declarations-init
read_declarations-declarations-init t c = goes_on (valued {ws = []} (started ((due.declarations c.args.depth) ∷ []) (due.declared no_decls ∷ []) _) (ap (λ xs. due.declared (image.decls xs)) c.new-decls.ensures.items)) c.requires.ended

pub read_procedure-returns-in_err-heading-clause-refused : goal.read_procedure-returns-in_err-heading-clause-refused
read_procedure-returns-in_err-heading-clause-refused t c = if_err_left _ _ _ c.from_residual.ensures.1 (λ xs. refusing_all _ (started (procedure_in c.args.kind c.args.depth) (due.declared xs ∷ []) _) c.in_err-heading.ensures.refused)

pub read_procedure-returns-then-is_word-clause-found : goal.read_procedure-returns-then-is_word-clause-found
read_procedure-returns-then-is_word-clause-found t c = closes_found c.closed_forward.result (λ x. image.decl x.0) (λ x. x.1.now) (λ xs. making {xs = due.declared (decl_behind xs (trees.forward c.in_ok-heading.heading)) ∷ []} (then (bringing (started (procedure_in c.args.kind c.args.depth) (due.declared xs ∷ []) _) c.in_ok-heading.ensures.found) (takes_all c.first_of.ensures (due.procedure_body c.args.depth) _ (forward_takes c.args.depth c.first_of.ensures (sym c.is_word.ensures ∙ c.if-is_word.true)))) (λ vs. refl)) (rest_of c.in_ok-heading.ensures.found.behind (behind_word c.first_of.ensures reserved.Forward c.in_ok-heading.ensures.found.behind.ended (sym c.is_word.ensures ∙ c.if-is_word.true))) c.closed_forward.ensures.passes c.closed_forward.ensures.built

pub read_procedure-returns-then-is_word-clause-refused : goal.read_procedure-returns-then-is_word-clause-refused
read_procedure-returns-then-is_word-clause-refused t c = closes_refused c.closed_forward.result (λ xs. making {xs = due.declared (decl_behind xs (trees.forward c.in_ok-heading.heading)) ∷ []} (then (bringing (started (procedure_in c.args.kind c.args.depth) (due.declared xs ∷ []) _) c.in_ok-heading.ensures.found) (takes_all c.first_of.ensures (due.procedure_body c.args.depth) _ (forward_takes c.args.depth c.first_of.ensures (sym c.is_word.ensures ∙ c.if-is_word.true)))) (λ vs. refl)) c.closed_forward.ensures.refused

pub read_procedure-returns-in_err-inner-clause-refused : goal.read_procedure-returns-in_err-inner-clause-refused
read_procedure-returns-in_err-inner-clause-refused t c = if_err_left _ _ _ c.from_residual-in_err-inner.ensures.1 (λ xs. refusing (bringing (started (procedure_in c.args.kind c.args.depth) (due.declared xs ∷ []) _) c.in_ok-heading.ensures.found) (body_too_deep c.args.depth [] c.first_of.ensures _ (sym c.begins_body.ensures ∙ c.if-begins_body.true) c.in_err-inner.ensures.deep.0 c.in_err-inner.ensures.deep.2))

pub read_procedure-returns-in_err-statement-clause-refused : goal.read_procedure-returns-in_err-statement-clause-refused
read_procedure-returns-in_err-statement-clause-refused t c = if_err_left _ _ _ c.from_residual-in_err-statement.ensures.1 (λ xs. refusing (then (bringing (started (procedure_in c.args.kind c.args.depth) (due.declared xs ∷ []) _) c.in_ok-heading.ensures.found) (body_starts c.args.depth _ c.first_of.ensures (sym c.begins_body.ensures ∙ c.if-begins_body.true) c.in_ok-inner.ensures.opens.0 c.in_ok-inner.ensures.opens.1)) c.in_err-statement.ensures.refused)

pub read_procedure-returns-in_ok-statement-clause-found : goal.read_procedure-returns-in_ok-statement-clause-found
read_procedure-returns-in_ok-statement-clause-found t c = closes_found c.closed_procedure.result (λ x. image.decl x.0) (λ x. x.1.now) (λ xs. making {xs = due.declared (decl_behind xs (trees.procedure c.in_ok-heading.heading (image.stmt c.in_ok-statement.statement.value))) ∷ []} (completing (then (bringing (started (procedure_in c.args.kind c.args.depth) (due.declared xs ∷ []) _) c.in_ok-heading.ensures.found) (body_starts c.args.depth _ c.first_of.ensures (sym c.begins_body.ensures ∙ c.if-begins_body.true) c.in_ok-inner.ensures.opens.0 c.in_ok-inner.ensures.opens.1)) c.in_ok-statement.ensures.found) (λ vs. refl)) (rest_on c.in_ok-heading.ensures.found.behind c.in_ok-statement.ensures.found.ended c.in_ok-statement.ensures.found.no_longer) c.closed_procedure.ensures.passes c.closed_procedure.ensures.built

pub read_procedure-returns-in_ok-statement-clause-refused : goal.read_procedure-returns-in_ok-statement-clause-refused
read_procedure-returns-in_ok-statement-clause-refused t c = closes_refused c.closed_procedure.result (λ xs. making {xs = due.declared (decl_behind xs (trees.procedure c.in_ok-heading.heading (image.stmt c.in_ok-statement.statement.value))) ∷ []} (completing (then (bringing (started (procedure_in c.args.kind c.args.depth) (due.declared xs ∷ []) _) c.in_ok-heading.ensures.found) (body_starts c.args.depth _ c.first_of.ensures (sym c.begins_body.ensures ∙ c.if-begins_body.true) c.in_ok-inner.ensures.opens.0 c.in_ok-inner.ensures.opens.1)) c.in_ok-statement.ensures.found) (λ vs. refl)) c.closed_procedure.ensures.refused

pub read_procedure-returns-else-begins_body-clause-refused : goal.read_procedure-returns-else-begins_body-clause-refused
read_procedure-returns-else-begins_body-clause-refused t c = λ xs. refusing (bringing (started (procedure_in c.args.kind c.args.depth) (due.declared xs ∷ []) _) c.in_ok-heading.ensures.found) (refuses_here c.first_of.ensures _ (due.procedure_body c.args.depth) [] [] _ refl (body_refuses c.args.depth c.first_of.ensures (sym c.is_word.ensures ∙ c.if-is_word.false) (sym c.begins_body.ensures ∙ c.if-begins_body.false)) c.unexpected.ensures)

pub read_declarations-returns-in_err-procedure-clause-refused : goal.read_declarations-returns-in_err-procedure-clause-refused
read_declarations-returns-in_err-procedure-clause-refused t c = if_err_left _ _ _ c.from_residual.ensures.1 (refusing_on (due.declarations c.args.depth ∷ []) {ws = []} (then c.declarations.invariant.run (takes_all c.first_of.ensures (due.declarations c.args.depth) (procedure_in None c.args.depth ++ due.declarations c.args.depth ∷ []) {us = due.declared (image.decls _) ∷ []} (procedure_declared c.args.depth c.first_of.ensures (sym c.is_word.ensures ∙ c.if-is_word.true)))) (c.in_err-procedure.ensures.refused _))

pub read_declarations-declarations-preserved-then-is_word : goal.read_declarations-declarations-preserved-then-is_word
read_declarations-declarations-preserved-then-is_word t c = goes_to c.declarations.invariant (valued {ws = []} (adding {ds = due.declarations c.args.depth ∷ []} {ws = []} (then c.declarations.invariant.run (takes_all c.first_of.ensures (due.declarations c.args.depth) (procedure_in None c.args.depth ++ due.declarations c.args.depth ∷ []) {us = due.declared (image.decls _) ∷ []} (procedure_declared c.args.depth c.first_of.ensures (sym c.is_word.ensures ∙ c.if-is_word.true)))) c.in_ok-procedure.ensures.found) (ap due.declared (sym (one_decl _ _ _ c.in_ok-push.ensures.items)))) (rest_of (behind_word c.first_of.ensures reserved.Procedure c.declarations.invariant.ended (sym c.is_word.ensures ∙ c.if-is_word.true)) c.in_ok-procedure.ensures.found.behind)

pub read_declarations-returns-in_err-typed-clause-refused : goal.read_declarations-returns-in_err-typed-clause-refused
read_declarations-returns-in_err-typed-clause-refused t c = if_err_left _ _ _ c.from_residual-in_err-typed.ensures.1 (refusing_on (due.declarations c.args.depth ∷ []) {ws = []} (then c.declarations.invariant.run (takes_all c.first_of.ensures (due.declarations c.args.depth) (due.typed c.in-Some.kind c.args.depth ∷ due.declarations c.args.depth ∷ []) {us = due.declared (image.decls _) ∷ []} (type_declared c.args.depth c.first_of.ensures _ (sym c.type_of.ensures ∙ c.in-Some.is)))) c.in_err-typed.ensures.refused)

pub read_declarations-declarations-preserved-in-Some : goal.read_declarations-declarations-preserved-in-Some
read_declarations-declarations-preserved-in-Some t c = goes_to c.declarations.invariant (listing {ds = due.declarations c.args.depth ∷ []} {ws = []} (then c.declarations.invariant.run (takes_all c.first_of.ensures (due.declarations c.args.depth) (due.typed c.in-Some.kind c.args.depth ∷ due.declarations c.args.depth ∷ []) {us = due.declared (image.decls _) ∷ []} (type_declared c.args.depth c.first_of.ensures _ (sym c.type_of.ensures ∙ c.in-Some.is)))) c.in_ok-typed.ensures.found) (rest_of (behind_it c.first_of.ensures c.declarations.invariant.ended (not_end_type _ _ (sym c.type_of.ensures ∙ c.in-Some.is))) c.in_ok-typed.ensures.found.behind)

pub read_declarations-returns-in_err-listed-clause-refused : goal.read_declarations-returns-in_err-listed-clause-refused
read_declarations-returns-in_err-listed-clause-refused t c = if_err_left _ _ _ c.from_residual-in_err-listed.ensures.1 (refused_as_other c.declarations.invariant c.first_of.ensures (c.in_err-listed.ensures.refused c.args.depth))

pub read_declarations-declarations-preserved : goal.read_declarations-declarations-preserved
read_declarations-declarations-preserved t c = goes_as c.declarations.invariant c.first_of.ensures (c.in_ok-listed.ensures.found c.args.depth)

pub read_declarations-returns-else-lists_names-clause-found : goal.read_declarations-returns-else-lists_names-clause-found
read_declarations-returns-else-lists_names-clause-found t c = extends_all c.declarations.invariant c.first_of.ensures (none_declared c.args.depth c.first_of.ensures (sym c.is_word.ensures ∙ c.if-is_word.false) (sym c.type_of.ensures ∙ c.in_default.is) (sym c.lists_names.ensures ∙ c.if-lists_names.false)) (ap (λ xs. due.declared (image.decls xs)) c.of.ensures)

pub read_declarations-declarations-smaller : goal.read_declarations-declarations-smaller
read_declarations-declarations-smaller t c = omega (arith, (c.in_ok-listed.ensures.found c.args.depth).behind.shorter, ap length c.first_of.ensures)
