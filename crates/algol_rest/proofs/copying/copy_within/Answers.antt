use Rattle.std.proofs.Common.{ap, sym, ◌∙◌}
use Rattle.algol_rest.specs.declared.statement.Within.{Within}
use Rattle.algol_rest.proofs.copying.copy_within.Goals as goal

pub returns-in-Evaluating : goal.returns-in-Evaluating
returns-in-Evaluating c = sym c.in-Evaluating.is

pub returns-in_ok-copy_place-in-Storing : goal.returns-in_ok-copy_place-in-Storing
returns-in_ok-copy_place-in-Storing c =
    let i = c.in-Storing in
    ap Within.Storing c.in_ok-copy_place-in-Storing.ensures ∙ sym i.is

pub returns-in-Testing : goal.returns-in-Testing
returns-in-Testing c = sym c.in-Testing.is

pub returns-in-Stepping : goal.returns-in-Stepping
returns-in-Stepping c = sym c.in-Stepping.is

pub returns-in_ok-copy_givens-in-Supplying : goal.returns-in_ok-copy_givens-in-Supplying
returns-in_ok-copy_givens-in-Supplying c =
    let i = c.in-Supplying in
    ap (λ gs. Within.Supplying i.role i.n gs i.es) c.in_ok-copy_givens-in-Supplying.ensures ∙ sym i.is

pub returns-in_ok-copy_list-in-Subscripting : goal.returns-in_ok-copy_list-in-Subscripting
returns-in_ok-copy_list-in-Subscripting c =
    let i = c.in-Subscripting in
    ap (λ ks. Within.Subscripting i.sought i.n ks i.es) c.in_ok-copy_list-in-Subscripting.ensures ∙ sym i.is

pub returns-in_ok-copy_list-in-Writing : goal.returns-in_ok-copy_list-in-Writing
returns-in_ok-copy_list-in-Writing c =
    let i = c.in-Writing in
    ap (λ vs. Within.Writing i.phrases vs i.es) c.in_ok-copy_list-in-Writing.ensures ∙ sym i.is

pub returns-in_ok-copy_list-in-Bounding : goal.returns-in_ok-copy_list-in-Bounding
returns-in_ok-copy_list-in-Bounding c =
    let i = c.in-Bounding in
    ap (λ vs. Within.Bounding i.kind i.ns i.pairs vs i.further) c.in_ok-copy_list-in-Bounding.ensures ∙ sym i.is
