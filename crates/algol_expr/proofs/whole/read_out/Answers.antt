use Rattle.std.proofs.Common.{sym, subst}
use Rattle.algol_tree.specs.Due.{part, one}
use Rattle.algol_tree.specs.Image.{expr as plain}
use Rattle.algol_tree.specs.Operators.{expr}
use Rattle.algol_tree.specs.Found.{ReaderFinds}
use Rattle.b67_list.proofs.Answered.{if_err_left}
use Rattle.algol_expr.proofs.whole.read_out.Goals as goal

pub returns-in_err-expr-clause-refused : goal.returns-in_err-expr-clause-refused
returns-in_err-expr-clause-refused c = if_err_left _ _ _ c.from_residual.ensures.1 c.in_err-expr.ensures.refused

pub returns-clause-found : goal.returns-clause-found
returns-clause-found c = subst (λ e. ReaderFinds (part expr c.args.depth) c.args.tokens.now (one (plain e)) c.in_ok-expr.rest.now) (sym c.into_inner.ensures) c.in_ok-expr.ensures.found
