use Rattle.std.proofs.Common.{[], arith}
use Rattle.algol_expr.proofs.Arms.{started}
use Rattle.b67_list.proofs.Answered.{if_err_left}
use Rattle.algol_part.proofs.Chains.{bringing, refusing_all}
use Rattle.algol_part.specs.Openings.{behind_word}
use Rattle.algol_part.proofs.Openings.{comes, comes_behind, refuses_behind, range_as, range_refused}
use Rattle.algol_part.specs.declared.start.Opener.TheVariants as openers
use Rattle.algol_part.proofs.opening.read_opening.Goals as goal

pub returns-in-Begin-clause-found : goal.returns-in-Begin-clause-found
returns-in-Begin-clause-found c = λ i. comes_behind c.in-Begin.is c.args.spot i (comes (started (behind_word openers.Begin c.args.spot i) [] _) c.requires.ended (omega arith))

pub returns-in-Do-clause-found : goal.returns-in-Do-clause-found
returns-in-Do-clause-found c = λ i. comes_behind c.in-Do.is c.args.spot i (comes (started (behind_word openers.Do c.args.spot i) [] _) c.requires.ended (omega arith))

pub returns-in_err-condition-in-If-clause-refused : goal.returns-in_err-condition-in-If-clause-refused
returns-in_err-condition-in-If-clause-refused c = if_err_left _ _ _ c.from_residual.ensures.1 (λ i. refuses_behind c.in-If.is c.args.spot i (refusing_all _ (started (behind_word openers.If c.args.spot i) [] _) c.in_err-condition-in-If.ensures.refused))

pub returns-in_ok-condition-in-If-clause-found : goal.returns-in_ok-condition-in-If-clause-found
returns-in_ok-condition-in-If-clause-found c = let b = c.in_ok-condition-in-If.ensures.found.behind in λ i. comes_behind c.in-If.is c.args.spot i (comes (bringing (started (behind_word openers.If c.args.spot i) [] _) c.in_ok-condition-in-If.ensures.found) b.ended (omega (arith, b.shorter)))

pub returns-in_err-lasting-in-While-clause-refused : goal.returns-in_err-lasting-in-While-clause-refused
returns-in_err-lasting-in-While-clause-refused c = if_err_left _ _ _ c.from_residual-in_err-lasting-in-While.ensures.1 (λ i. refuses_behind c.in-While.is c.args.spot i (refusing_all _ (started (behind_word openers.While c.args.spot i) [] _) c.in_err-lasting-in-While.ensures.refused))

pub returns-in_ok-lasting-in-While-clause-found : goal.returns-in_ok-lasting-in-While-clause-found
returns-in_ok-lasting-in-While-clause-found c = let b = c.in_ok-lasting-in-While.ensures.found.behind in λ i. comes_behind c.in-While.is c.args.spot i (comes (bringing (started (behind_word openers.While c.args.spot i) [] _) c.in_ok-lasting-in-While.ensures.found) b.ended (omega (arith, b.shorter)))

pub returns-in_err-count-in-Thru-clause-refused : goal.returns-in_err-count-in-Thru-clause-refused
returns-in_err-count-in-Thru-clause-refused c = if_err_left _ _ _ c.from_residual-in_err-count-in-Thru.ensures.1 (λ i. refuses_behind c.in-Thru.is c.args.spot i (refusing_all _ (started (behind_word openers.Thru c.args.spot i) [] _) c.in_err-count-in-Thru.ensures.refused))

pub returns-in_ok-count-in-Thru-clause-found : goal.returns-in_ok-count-in-Thru-clause-found
returns-in_ok-count-in-Thru-clause-found c = let b = c.in_ok-count-in-Thru.ensures.found.behind in λ i. comes_behind c.in-Thru.is c.args.spot i (comes (bringing (started (behind_word openers.Thru c.args.spot i) [] _) c.in_ok-count-in-Thru.ensures.found) b.ended (omega (arith, b.shorter)))

pub returns-in-For-clause-found : goal.returns-in-For-clause-found
returns-in-For-clause-found c = range_as c.read_range.result (λ x. x.0) (λ x. x.1.now) c.in-For.is c.args.spot _ c.read_range.ensures.found

pub returns-in-For-clause-refused : goal.returns-in-For-clause-refused
returns-in-For-clause-refused c = range_refused c.read_range.result c.in-For.is c.args.spot _ c.read_range.ensures.refused

pub returns-in_err-choice-in-Case-clause-refused : goal.returns-in_err-choice-in-Case-clause-refused
returns-in_err-choice-in-Case-clause-refused c = if_err_left _ _ _ c.from_residual-in_err-choice-in-Case.ensures.1 (λ i. refuses_behind c.in-Case.is c.args.spot i (refusing_all _ (started (behind_word openers.Case c.args.spot i) [] _) c.in_err-choice-in-Case.ensures.refused))

pub returns-in_ok-choice-in-Case-clause-found : goal.returns-in_ok-choice-in-Case-clause-found
returns-in_ok-choice-in-Case-clause-found c = let b = c.in_ok-choice-in-Case.ensures.found.behind in λ i. comes_behind c.in-Case.is c.args.spot i (comes (bringing (started (behind_word openers.Case c.args.spot i) [] _) c.in_ok-choice-in-Case.ensures.found) b.ended (omega (arith, b.shorter)))
