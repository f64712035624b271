use Rattle.std.proofs.Common.{sym, subst}
use Rattle.algol_part.specs.Openings.{PartBegins}
use Rattle.algol_part.proofs.Chains.{no_memory}
use Rattle.algol_tree.specs.Due as due
use Rattle.b67_list.proofs.Answered.{if_err_left}
use Rattle.algol_stmt.proofs.begun.read_begun.Goals as goal

pub returns-in_err-beginning-clause-refused : goal.returns-in_err-beginning-clause-refused
returns-in_err-beginning-clause-refused c = if_err_left _ _ _ c.from_residual.ensures.1 c.in_err-beginning.ensures.refused

pub returns-in_err-begun-clause-refused : goal.returns-in_err-begun-clause-refused
returns-in_err-begun-clause-refused c = if_err_left _ _ _ c.from_residual-in_err-begun.ensures.1 (no_memory c.in_err-begun.ensures.memory)

pub returns-clause-found : goal.returns-clause-found
returns-clause-found c = subst (λ b. PartBegins (due.statement c.args.depth) c.args.tokens.now b c.in_ok-beginning.rest.now) (sym c.in_ok-begun.ensures.boxed) c.in_ok-beginning.ensures.found
