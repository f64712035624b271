use Rattle.std.proofs.Common.{ap, sym, ◌∙◌}
use Rattle.algol_rest.specs.declared.statement.Point.{Point}
use Rattle.algol_rest.proofs.copying.copy_point.Goals as goal

pub returns-in_ok-copy_last-in-Last : goal.returns-in_ok-copy_last-in-Last
returns-in_ok-copy_last-in-Last c =
    let i = c.in-Last in
    ap Point.Last c.in_ok-copy_last-in-Last.ensures ∙ sym i.is

pub returns-in-Reading : goal.returns-in-Reading
returns-in-Reading c = sym c.in-Reading.is

pub returns-in_ok-copy_deed-in-Deed : goal.returns-in_ok-copy_deed-in-Deed
returns-in_ok-copy_deed-in-Deed c =
    let i = c.in-Deed in
    ap Point.Deed c.in_ok-copy_deed-in-Deed.ensures ∙ sym i.is

pub returns-in-Select : goal.returns-in-Select
returns-in-Select c = sym c.in-Select.is

pub returns-in-EnterBlock : goal.returns-in-EnterBlock
returns-in-EnterBlock c = sym c.in-EnterBlock.is

pub returns-in_ok-copy_givens-in-Enter : goal.returns-in_ok-copy_givens-in-Enter
returns-in_ok-copy_givens-in-Enter c =
    let i = c.in-Enter in
    ap (Point.Enter i.n) c.in_ok-copy_givens-in-Enter.ensures ∙ sym i.is

pub returns-in_ok-copy_givens-in-Pass : goal.returns-in_ok-copy_givens-in-Pass
returns-in_ok-copy_givens-in-Pass c =
    let i = c.in-Pass in
    ap (λ gs. Point.Pass i.role i.n gs i.m i.es) c.in_ok-copy_givens-in-Pass.ensures ∙ sym i.is

pub returns-in_ok-copy_target-in-Seek : goal.returns-in_ok-copy_target-in-Seek
returns-in_ok-copy_target-in-Seek c =
    let i = c.in-Seek in
    ap (Point.Seek i.sought) c.in_ok-copy_target-in-Seek.ensures ∙ sym i.is

pub returns-in-In : goal.returns-in-In
returns-in-In c = rw c.in-In.is c.copy_in.ensures
