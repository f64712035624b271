use Rattle.std.proofs.Common.{◌≡◌, ap, sym, ◌∙◌, List}
use Rattle.algol_tree.specs.Plain as tree
use Rattle.algol_tree.specs.declared.tree.Stmt.{Stmt}
use Rattle.algol_tree.specs.declared.tree.Decl.{Decl}
use Rattle.algol_tree.proofs.Images.{stmt_of_until}
use Rattle.algol_meaning.specs.SeenTree.{expr, stmt, stmts, decls}
use Rattle.algol_cells.specs.SeenScope.{scoped}
use Rattle.algol_rest.proofs.Labels.{stmt_of_block}
use Rattle.algol_rest.proofs.statement.Work.begin.Goals as goal

pub returns-in-Block : goal.returns-in-Block
returns-in-Block c =
    let i = c.in-Block in
    let ds : c.deref-in-Block.result.now ≡ i.b.decls = c.deref-in-Block.ensures.value ∙ c.items.ensures in
    let ss : c.deref-in-Block-2.result.now ≡ i.b.stmts = c.deref-in-Block-2.ensures.value ∙ c.items-in-Block.ensures in
    let e :
    stmt c.args.s.now
    ≡ tree.block (tree.body i.b.spot (decls c.deref-in-Block.result.now) (stmts c.deref-in-Block-2.result.now)) =
    ap stmt i.is
    ∙ stmt_of_block i.b
    ∙ ap (λ (x : List Decl). tree.block (tree.body i.b.spot (decls x) (stmts i.b.stmts))) (sym ds)
    ∙ ap (λ (x : List Stmt). tree.block (tree.body i.b.spot (decls c.deref-in-Block.result.now) (stmts x))) (sym ss) in
    rw e (c.open.ensures (scoped c.args.scopes.now))

pub returns-in-Until : goal.returns-in-Until
returns-in-Until c =
    let i = c.in-Until in
    let e : stmt c.args.s.now ≡ tree.until (stmt c.deref-in-Until.result.now) (expr i.field-1) =
    ap stmt i.is ∙ stmt_of_until i.b i.field-1 ∙ ap (λ (x : Stmt). tree.until (stmt x) (expr i.field-1)) (sym c.deref-in-Until.ensures) in
    rw e (c.begin_until.ensures (scoped c.args.scopes.now) (expr i.field-1) e)
