use Rattle.std.proofs.Common.{ap, sym, ◌∙◌}
use Rattle.algol_rest_expr.specs.declared.part.Head.{Head}
use Rattle.algol_rest_expr.proofs.copying.copy_head.Goals as goal

pub returns-in-Read : goal.returns-in-Read
returns-in-Read c = sym c.in-Read.is

pub returns-in_ok-copy_list-in-Element : goal.returns-in_ok-copy_list-in-Element
returns-in_ok-copy_list-in-Element c =
    let i = c.in-Element in
    ap (λ ks. Head.Element i.n ks i.v) c.in_ok-copy_list-in-Element.ensures ∙ sym i.is

pub returns-in_ok-copy_list-in-Index : goal.returns-in_ok-copy_list-in-Index
returns-in_ok-copy_list-in-Index c =
    let i = c.in-Index in
    ap (λ ks. Head.Index i.n ks i.v i.e i.es) c.in_ok-copy_list-in-Index.ensures ∙ sym i.is

pub returns-in-Tests : goal.returns-in-Tests
returns-in-Tests c = sym c.in-Tests.is

pub returns-in-Broken : goal.returns-in-Broken
returns-in-Broken c = sym c.in-Broken.is

pub returns-in_ok-copy_givens-in-Enter : goal.returns-in_ok-copy_givens-in-Enter
returns-in_ok-copy_givens-in-Enter c =
    let i = c.in-Enter in
    ap (Head.Enter i.n) c.in_ok-copy_givens-in-Enter.ensures ∙ sym i.is

pub returns-in_ok-copy_givens-in-Pass : goal.returns-in_ok-copy_givens-in-Pass
returns-in_ok-copy_givens-in-Pass c =
    let i = c.in-Pass in
    ap (λ gs. Head.Pass i.n gs i.m i.es) c.in_ok-copy_givens-in-Pass.ensures ∙ sym i.is

pub returns-in-Inside : goal.returns-in-Inside
returns-in-Inside c = sym c.in-Inside.is
