use Rattle.std.proofs.Common.{◌≡◌, ap, sym, subst, ◌∙◌, ◌+◌, ℤ, IfOk}
use Rattle.algol_tree.specs.Plain as tree
use Rattle.algol_tree.specs.declared.tree.Stmt.{Stmt}
use Rattle.algol_tree.proofs.Images.{for_is, stmt_of_if, stmt_of_thru, stmt_of_until, stmt_of_while}
use Rattle.algol_meaning.specs.Value as plain
use Rattle.algol_meaning.specs.Statements.{repeated_of, counted_body, settle_items}
use Rattle.algol_meaning.specs.SeenTree.{expr, stmt, branched}
use Rattle.algol_cells.specs.SeenValue.{value}
use Rattle.algol_cells.specs.SeenScope.{scoped}
use Rattle.algol_rest.specs.SeenStatement.{ahead, Advances, stmt_size, weigh}
use Rattle.algol_rest.proofs.statement.Work.tested.Goals as goal

pub returns-in-If : goal.returns-in-If
returns-in-If c =
    let i = c.in-If in
    let e : stmt c.args.s.now ≡ branched (expr i.field-0) (stmt c.deref.result.now) i.y =
    ap stmt i.is ∙ stmt_of_if i.field-0 i.x i.y ∙ ap (λ (x : Stmt). branched (expr i.field-0) (stmt x) i.y) (sym c.deref.ensures) in
    rw e (c.choose.ensures (scoped c.args.scopes.now) (expr i.field-0))

pub returns-in-While : goal.returns-in-While
returns-in-While c =
    let i = c.in-While in
    let e : stmt c.args.s.now ≡ tree.while (expr i.field-0) (stmt c.deref-in-While.result.now) =
    ap stmt i.is ∙ stmt_of_while i.field-0 i.b ∙ ap (λ (x : Stmt). tree.while (expr i.field-0) (stmt x)) (sym c.deref-in-While.ensures) in
    rw e (c.turn_while.ensures (scoped c.args.scopes.now) (expr i.field-0) e)

pub returns-in-Until : goal.returns-in-Until
returns-in-Until c =
    let i = c.in-Until in
    let e : stmt c.args.s.now ≡ tree.until (stmt i.field-0.value) (expr i.field-1) = ap stmt i.is ∙ stmt_of_until i.field-0 i.field-1 in
    rw e (c.turn_until.ensures (scoped c.args.scopes.now) (stmt i.field-0.value) (expr i.field-1) e)

pub returns-in-Thru : goal.returns-in-Thru
returns-in-Thru c =
    let i = c.in-Thru in
    let q : c.whole_of.result ≡ plain.whole_of (value c.args.v) = c.whole_of.ensures in
    let e : stmt c.args.s.now ≡ tree.thru (expr i.field-0) (stmt c.deref-in-Thru.result.now) =
    ap stmt i.is ∙ stmt_of_thru i.field-0 i.b ∙ ap (λ (x : Stmt). tree.thru (expr i.field-0) (stmt x)) (sym c.deref-in-Thru.ensures) in
    rw e
    (subst
    (λ (z : ℤ). IfOk c.repeat.result (λ found. Advances
    (scoped c.args.scopes.now)
    (repeated_of z (counted_body (scoped c.args.scopes.now) (stmt c.deref-in-Thru.result.now) (ahead c.args.self.now)) (settle_items (scoped c.args.scopes.now) (ahead c.args.self.now)))
    (stmt_size (tree.thru (expr i.field-0) (stmt c.deref-in-Thru.result.now)) + weigh c.args.self.now.todo)
    found
    c.repeat.new.self))
    q
    (c.repeat.ensures (scoped c.args.scopes.now) (expr i.field-0) e))

pub returns-in-For : goal.returns-in-For
returns-in-For c =
    let i = c.in-For in
    let e : stmt c.args.s.now ≡ tree.for i.field-0 (expr i.field-1) (expr i.step) (expr i.field-3) (stmt c.deref-in-For.result.now) =
    ap stmt i.is
    ∙ for_is i.field-0 i.field-1 i.step i.field-3 i.b
    ∙ ap (λ (x : Stmt). tree.for i.field-0 (expr i.field-1) (expr i.step) (expr i.field-3) (stmt x)) (sym c.deref-in-For.ensures) in
    rw e (c.test_for.ensures i.field-0 (expr i.field-1) (expr i.field-3) e)
