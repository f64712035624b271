use Rattle.std.proofs.Common.{ap, sym, ◌∙◌}
use Rattle.algol_rest_expr.specs.declared.part.Frame.{Frame}
use Rattle.algol_rest_expr.proofs.copying.copy_frame.Goals as goal

pub returns-in_ok-copy_list-in-Subscript : goal.returns-in_ok-copy_list-in-Subscript
returns-in_ok-copy_list-in-Subscript c =
    let i = c.in-Subscript in
    ap (λ ks. Frame.Subscript i.n ks i.es) c.in_ok-copy_list-in-Subscript.ensures ∙ sym i.is

pub returns-in_ok-copy_givens-in-Argument : goal.returns-in_ok-copy_givens-in-Argument
returns-in_ok-copy_givens-in-Argument c =
    let i = c.in-Argument in
    ap (λ gs. Frame.Argument i.n gs i.es) c.in_ok-copy_givens-in-Argument.ensures ∙ sym i.is

pub returns-in-Left : goal.returns-in-Left
returns-in-Left c = sym c.in-Left.is

pub returns-in-Right : goal.returns-in-Right
returns-in-Right c = sym c.in-Right.is

pub returns-in-Negated : goal.returns-in-Negated
returns-in-Negated c = sym c.in-Negated.is

pub returns-in-Inverted : goal.returns-in-Inverted
returns-in-Inverted c = sym c.in-Inverted.is

pub returns-in-Condition : goal.returns-in-Condition
returns-in-Condition c = sym c.in-Condition.is
