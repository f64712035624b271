use Rattle.std.proofs.Common.{ap, sym, ◌∙◌}
use Rattle.algol_rest.specs.declared.statement.Deed.{Deed}
use Rattle.algol_rest.proofs.copying.copy_deed.Goals as goal

pub returns-in_ok-copy_place-in-Store : goal.returns-in_ok-copy_place-in-Store
returns-in_ok-copy_place-in-Store c =
    let i = c.in-Store in
    ap (λ to. Deed.Store to i.v) c.in_ok-copy_place-in-Store.ensures ∙ sym i.is

pub returns-in-Turn : goal.returns-in-Turn
returns-in-Turn c = sym c.in-Turn.is

pub returns-in_ok-copy_givens-in-Start : goal.returns-in_ok-copy_givens-in-Start
returns-in_ok-copy_givens-in-Start c =
    let i = c.in-Start in
    ap (λ gs. Deed.Start i.n gs i.task) c.in_ok-copy_givens-in-Start.ensures ∙ sym i.is

pub returns-in-Event : goal.returns-in-Event
returns-in-Event c = sym c.in-Event.is

pub returns-in_ok-copy_list-in-Line : goal.returns-in_ok-copy_list-in-Line
returns-in_ok-copy_list-in-Line c =
    let i = c.in-Line in
    ap (Deed.Line i.phrases) c.in_ok-copy_list-in-Line.ensures ∙ sym i.is

pub returns-in_ok-copy_list-in-Arrays : goal.returns-in_ok-copy_list-in-Arrays
returns-in_ok-copy_list-in-Arrays c =
    let i = c.in-Arrays in
    ap (Deed.Arrays i.kind i.ns i.pairs) c.in_ok-copy_list-in-Arrays.ensures ∙ sym i.is

pub returns-in-MakeEvent : goal.returns-in-MakeEvent
returns-in-MakeEvent c = sym c.in-MakeEvent.is

pub returns-in-Within : goal.returns-in-Within
returns-in-Within c = sym c.in-Within.is

pub returns-in-Dropping : goal.returns-in-Dropping
returns-in-Dropping c = sym c.in-Dropping.is
