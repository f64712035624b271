use Rattle.std.proofs.Common.{◌≡◌, ap, sym, ◌∙◌}
use Rattle.algol_tree.specs.Plain as tree
use Rattle.algol_tree.specs.declared.tree.Stmt.{Stmt}
use Rattle.algol_tree.proofs.Images.{stmt_of_thru}
use Rattle.algol_meaning.specs.SeenTree.{expr, stmt}
use Rattle.algol_rest.proofs.statement.Work.count_on.Goals as goal

pub returns-in-Thru : goal.returns-in-Thru
returns-in-Thru c =
    let i = c.in-Thru in
    let e : stmt c.args.s.now ≡ tree.thru (expr i.field-0) (stmt c.deref.result.now) =
    ap stmt i.is ∙ stmt_of_thru i.field-0 i.b ∙ ap (λ (x : Stmt). tree.thru (expr i.field-0) (stmt x)) (sym c.deref.ensures) in
    λ sc. rw e (c.repeat.ensures sc (expr i.field-0) e)
