use Rattle.std.proofs.Common.{[], ◌∷◌, refl, sym, ap, ◌∙◌, arith}
use Rattle.algol_expr.proofs.Chain.{making, completes_done}
use Rattle.b67_list.proofs.Answered.{if_err_left}
use Rattle.algol_part.proofs.Chains.{no_memory, takes_all, makes_it, behind_it, too_deep_here}
use Rattle.algol_part.proofs.Tails.{refuses_by}
use Rattle.algol_part.proofs.Begun.{opens_with, starting, not_end_start, name_begins, empty_here}
use Rattle.algol_part.proofs.Firsts.{not_end_name}
use Rattle.algol_part.proofs.Openings.{begins_by, completes_after, opens_so, refuses_after}
use Rattle.algol_part.specs.Openings.{behind_word, behind_verb}
use Rattle.algol_part.specs.declared.start.Start.TheVariants as starts
use Rattle.algol_tree.specs.Due as due
use Rattle.algol_part.proofs.opening.read_beginning.Goals as goal

pub returns-in_err-name-clause-refused : goal.returns-in_err-name-clause-refused
returns-in_err-name-clause-refused c = if_err_left _ _ _ c.from_residual.ensures.1 (no_memory c.in_err-name.ensures.memory)

pub returns-in-Some-clause-found : goal.returns-in-Some-clause-found
returns-in-Some-clause-found c = begins_by c.read_behind_name.result (λ x. x.0) (λ x. x.1.now) (takes_all c.first_of.ensures (due.statement c.args.depth) _ {us = []} (name_begins c.args.depth c.first_of.ensures _ _ c.in-Some.ensures.some c.in_ok-name.ensures.built)) (behind_it c.first_of.ensures c.requires.ended (not_end_name _ _ c.in-Some.ensures.some)) c.read_behind_name.ensures.found

pub returns-in-Some-clause-refused : goal.returns-in-Some-clause-refused
returns-in-Some-clause-refused c = refuses_by c.read_behind_name.result (due.behind_start _ c.args.depth ∷ []) (takes_all c.first_of.ensures (due.statement c.args.depth) _ {us = []} (name_begins c.args.depth c.first_of.ensures _ _ c.in-Some.ensures.some c.in_ok-name.ensures.built)) c.read_behind_name.ensures.refused

pub returns-in_err-inner-in-Opens-clause-refused : goal.returns-in_err-inner-in-Opens-clause-refused
returns-in_err-inner-in-Opens-clause-refused c = if_err_left _ _ _ c.from_residual-in_err-inner-in-Opens.ensures.1 (too_deep_here c.first_of.ensures c.args.depth (due.statement c.args.depth) _ {ds = []} {us = []} _ (starting c.args.depth c.first_of.ensures (starts.Opens _) (sym c.start_of.ensures ∙ c.in-Opens.is) _ refl) c.in_err-inner-in-Opens.ensures.deep.0 c.in_err-inner-in-Opens.ensures.deep.2)

pub returns-in_err-opening-in-Opens-clause-refused : goal.returns-in_err-opening-in-Opens-clause-refused
returns-in_err-opening-in-Opens-clause-refused c = if_err_left _ _ _ c.from_residual-in_err-opening-in-Opens.ensures.1 (refuses_after (opens_with c.first_of.ensures c.args.depth _ (due.statement c.args.depth) (behind_word c.in-Opens.opener c.first_of.result.0.now.spot) {us = []} (starting c.args.depth c.first_of.ensures (starts.Opens _) (sym c.start_of.ensures ∙ c.in-Opens.is) _ refl) c.in_ok-inner-in-Opens.ensures.opens.0 c.in_ok-inner-in-Opens.ensures.opens.1) (c.in_err-opening-in-Opens.ensures.refused _))

pub returns-in_ok-opening-in-Opens-clause-found : goal.returns-in_ok-opening-in-Opens-clause-found
returns-in_ok-opening-in-Opens-clause-found c = opens_so (opens_with c.first_of.ensures c.args.depth _ (due.statement c.args.depth) (behind_word c.in-Opens.opener c.first_of.result.0.now.spot) {us = []} (starting c.args.depth c.first_of.ensures (starts.Opens _) (sym c.start_of.ensures ∙ c.in-Opens.is) _ refl) c.in_ok-inner-in-Opens.ensures.opens.0 c.in_ok-inner-in-Opens.ensures.opens.1) (behind_it c.first_of.ensures c.requires.ended (not_end_start _ _ (sym c.start_of.ensures ∙ c.in-Opens.is) (λ q. cc))) (c.in_ok-opening-in-Opens.ensures.found _)

pub returns-in_err-statement-in-Acts-clause-refused : goal.returns-in_err-statement-in-Acts-clause-refused
returns-in_err-statement-in-Acts-clause-refused c = if_err_left _ _ _ c.from_residual-in_err-statement-in-Acts.ensures.1 (refuses_after (takes_all c.first_of.ensures (due.statement c.args.depth) (behind_verb c.in-Acts.verb) {us = []} (starting c.args.depth c.first_of.ensures (starts.Acts _) (sym c.start_of.ensures ∙ c.in-Acts.is) _ refl)) c.in_err-statement-in-Acts.ensures.refused)

pub returns-in_ok-statement-in-Acts-clause-found : goal.returns-in_ok-statement-in-Acts-clause-found
returns-in_ok-statement-in-Acts-clause-found c = completes_after (takes_all c.first_of.ensures (due.statement c.args.depth) (behind_verb c.in-Acts.verb) {us = []} (starting c.args.depth c.first_of.ensures (starts.Acts _) (sym c.start_of.ensures ∙ c.in-Acts.is) _ refl)) (behind_it c.first_of.ensures c.requires.ended (not_end_start _ _ (sym c.start_of.ensures ∙ c.in-Acts.is) (λ q. cc))) c.in_ok-statement-in-Acts.ensures.found

pub returns-in-Nothing-clause-found : goal.returns-in-Nothing-clause-found
returns-in-Nothing-clause-found c = completes_done (making (makes_it c.first_of.ensures (due.statement c.args.depth) _ {ds = []} {us = []} (empty_here c.args.depth c.first_of.ensures c.in_default.ensures.none (sym c.start_of.ensures ∙ c.in-Nothing.is))) (λ vs. refl)) (ap due.stmt c.empty.ensures) c.requires.ended (omega arith)
