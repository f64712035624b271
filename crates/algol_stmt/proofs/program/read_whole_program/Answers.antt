use Rattle.std.proofs.Common.{[], ◌∷◌, refl, sym, ap, ◌∙◌}
use Rattle.algol_expr.proofs.Chain.{past, making, extending, done, rest_of}
use Rattle.algol_part.proofs.Chains.{bringing, failing, refusing_all, refusing_on, refuses_here, too_deep_here, behind_word, rest_on}
use Rattle.algol_tree.specs.Plain.{no_decls}
use Rattle.algol_part.proofs.Begun.{opens_with, after_program, program_begins, program_refuses}
use Rattle.algol_tree.specs.declared.token.Reserved.TheVariants as reserved
use Rattle.algol_tree.specs.Due as due
use Rattle.b67_list.proofs.Answered.{if_err_left}
use Rattle.algol_stmt.proofs.program.read_whole_program.Goals as goal

pub returns-in_err-inner-clause-refused : goal.returns-in_err-inner-clause-refused
returns-in_err-inner-clause-refused c = if_err_left _ _ _ c.from_residual.ensures.1 (too_deep_here c.first_of.ensures 0 due.program _ {ds = []} {us = []} _ (program_begins c.first_of.ensures (sym c.is_word.ensures ∙ c.if-is_word.true)) c.in_err-inner.ensures.deep.0 c.in_err-inner.ensures.deep.2)

pub returns-in_err-decls-clause-refused : goal.returns-in_err-decls-clause-refused
returns-in_err-decls-clause-refused c = if_err_left _ _ _ c.from_residual-in_err-decls.ensures.1 (refusing_on _ {ws = []} (making {xs = due.declared no_decls ∷ []} (opens_with c.first_of.ensures 0 _ due.program (after_program _) {us = []} (program_begins c.first_of.ensures (sym c.is_word.ensures ∙ c.if-is_word.true)) c.in_ok-inner.ensures.opens.0 c.in_ok-inner.ensures.opens.1) (λ vs. refl)) c.in_err-decls.ensures.refused)

pub returns-in_err-stmts-clause-refused : goal.returns-in_err-stmts-clause-refused
returns-in_err-stmts-clause-refused c = if_err_left _ _ _ c.from_residual-in_err-stmts.ensures.1 (refusing_all _ {ws = _ ∷ []} (extending {ws = []} (making {xs = due.declared no_decls ∷ []} (opens_with c.first_of.ensures 0 _ due.program (after_program _) {us = []} (program_begins c.first_of.ensures (sym c.is_word.ensures ∙ c.if-is_word.true)) c.in_ok-inner.ensures.opens.0 c.in_ok-inner.ensures.opens.1) (λ vs. refl)) c.in_ok-decls.ensures.found) c.in_err-stmts.ensures.refused)

pub returns-in_err-rest-clause-refused : goal.returns-in_err-rest-clause-refused
returns-in_err-rest-clause-refused c = if_err_left _ _ _ c.from_residual-in_err-rest.ensures.1 (failing (bringing {ws = _ ∷ []} (extending {ws = []} (making {xs = due.declared no_decls ∷ []} (opens_with c.first_of.ensures 0 _ due.program (after_program _) {us = []} (program_begins c.first_of.ensures (sym c.is_word.ensures ∙ c.if-is_word.true)) c.in_ok-inner.ensures.opens.0 c.in_ok-inner.ensures.opens.1) (λ vs. refl)) c.in_ok-decls.ensures.found) c.in_ok-stmts.ensures.found) c.in_err-rest.ensures.fails)

pub returns-in_ok-rest-clause-found : goal.returns-in_ok-rest-clause-found
returns-in_ok-rest-clause-found c = done (making (past (bringing {ws = _ ∷ []} (extending {ws = []} (making {xs = due.declared no_decls ∷ []} (opens_with c.first_of.ensures 0 _ due.program (after_program _) {us = []} (program_begins c.first_of.ensures (sym c.is_word.ensures ∙ c.if-is_word.true)) c.in_ok-inner.ensures.opens.0 c.in_ok-inner.ensures.opens.1) (λ vs. refl)) c.in_ok-decls.ensures.found) c.in_ok-stmts.ensures.found) c.in_ok-rest.ensures.passes) (λ vs. refl)) (ap due.whole_program c.program.ensures) (rest_of (rest_of (rest_on (behind_word c.first_of.ensures reserved.Begin c.requires.ended (sym c.is_word.ensures ∙ c.if-is_word.true)) c.in_ok-decls.ensures.found.ended c.in_ok-decls.ensures.found.no_longer) c.in_ok-stmts.ensures.found.behind) c.in_ok-rest.ensures.passes.behind)

pub returns-else-is_word-clause-refused : goal.returns-else-is_word-clause-refused
returns-else-is_word-clause-refused c = refuses_here c.first_of.ensures _ due.program [] [] _ refl (program_refuses c.first_of.ensures (sym c.is_word.ensures ∙ c.if-is_word.false)) c.unexpected.ensures
