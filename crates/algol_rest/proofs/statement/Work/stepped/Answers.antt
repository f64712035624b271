use Rattle.std.proofs.Common.{◌≡◌, ap, sym, ◌∙◌}
use Rattle.algol_tree.specs.Plain as tree
use Rattle.algol_tree.specs.declared.tree.Stmt.{Stmt}
use Rattle.algol_tree.proofs.Images.{for_is}
use Rattle.algol_meaning.specs.SeenTree.{expr, stmt}
use Rattle.algol_rest.proofs.statement.Work.stepped.Goals as goal

pub returns-in-For : goal.returns-in-For
returns-in-For c =
    let i = c.in-For in
    let e : stmt c.args.s.now ≡ tree.for i.field-0 (expr i.field-1) (expr i.field-2) (expr i.field-3) (stmt c.deref.result.now) =
    ap stmt i.is
    ∙ for_is i.field-0 i.field-1 i.field-2 i.field-3 i.b
    ∙ ap (λ (x : Stmt). tree.for i.field-0 (expr i.field-1) (expr i.field-2) (expr i.field-3) (stmt x)) (sym c.deref.ensures) in
    λ sc. rw e (c.turn_for.ensures sc i.field-0 (expr i.field-1) (expr i.field-2) (expr i.field-3) e)
