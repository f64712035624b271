-- The plain tree of each form of statement, as it is matched.
use Rattle.std.proofs.Common.{◌≡◌, List, Option, Some, ap, sym, ◌∙◌}
use Rattle.std.specs.declared.boxed.Box.{Box}
use Rattle.std.specs.declared.alloc.Global.{Global}
use Rattle.algol_tree.specs.declared.token.Spot.{Spot}
use Rattle.algol_tree.specs.declared.tree.Call.{Call}
use Rattle.algol_tree.specs.declared.tree.Body.{Body}
use Rattle.b67_deeds.specs.declared.EventAct.{EventAct}
use Rattle.algol_tree.specs.declared.tree.EventName.{EventName}
use Rattle.algol_tree.specs.declared.tree.Expr.{Expr}
use Rattle.algol_tree.specs.declared.tree.Named.{Named}
use Rattle.algol_tree.specs.declared.tree.PhraseText.{PhraseText}
use Rattle.algol_tree.specs.declared.tree.Stmt.{Stmt}
use Rattle.algol_tree.specs.declared.tree.Stmt.TheVariants as shapes
use Rattle.algol_tree.specs.declared.tree.Variable.{Variable}
use Rattle.algol_tree.specs.Image.{body, decls, expr, exprs, stmt, stmts, variable}
use Rattle.algol_tree.specs.Plain as tree
use Rattle.algol_tree.proofs.Images.{assign_is, block_is, body_is, call_is, call_of_is, event_is, for_is, go_to_is, if_else_is, label_is, process_is, write_is}

-- ---- each form

-- ---- the same where a part is named otherwise

pub label_as : (s p : Stmt) (n : Named) (b : Box Stmt Global) → s ≡ shapes.Label n b → p ≡ b.value → stmt s ≡ tree.label n (stmt p)
label_as s p n b is same = ap stmt is ∙ label_is n b ∙ ap (λ (x : Stmt). tree.label n (stmt x)) (sym same)

pub go_to_as : (s : Stmt) (n : Named) → s ≡ shapes.GoTo n → stmt s ≡ tree.go_to n
go_to_as s n is = ap stmt is ∙ go_to_is n

pub event_as : (s : Stmt) (act : EventAct) (e : EventName) → s ≡ shapes.Event act e → stmt s ≡ tree.event act e
event_as s act e is = ap stmt is ∙ event_is act e

pub call_as : (s : Stmt) (c : Call) → s ≡ shapes.Call c → stmt s ≡ tree.call_of (tree.called c.name (exprs c.actuals))
call_as s c is = ap stmt is ∙ call_of_is c ∙ ap tree.call_of (call_is c)

pub process_as : (s : Stmt) (c : Call) (task : Option Named) → s ≡ shapes.Process c task → stmt s ≡ tree.process (tree.called c.name (exprs c.actuals)) task
process_as s c task is = ap stmt is ∙ process_is c task ∙ ap (λ x. tree.process x task) (call_is c)

pub assign_as : (s : Stmt) (v : Variable) (e : Expr) → s ≡ shapes.Assign v e → stmt s ≡ tree.assign (variable v) (expr e)
assign_as s v e is = ap stmt is ∙ assign_is v e

pub block_as : (s : Stmt) (b : Body) (ss : List Stmt) → s ≡ shapes.Block b → ss ≡ b.stmts → stmt s ≡ tree.block (tree.body b.spot (decls b.decls) (stmts ss))
block_as s b ss is same =
    ap stmt is ∙ block_is b ∙ ap tree.block (body_is b) ∙ ap (λ (xs : List Stmt). tree.block (tree.body b.spot (decls b.decls) (stmts xs))) (sym same)

pub if_else_as : (s p q : Stmt) (e : Expr) (x : Box Stmt Global) (o : Option (Box Stmt Global)) (y : Box Stmt Global) → s ≡ shapes.If e x o → o ≡ Some y → p ≡ x.value →
    q ≡ y.value → stmt s ≡ tree.if_else (expr e) (stmt p) (stmt q)
if_else_as s p q e x o y is some first second =
    ap stmt (is ∙ ap (shapes.If e x) some) ∙ if_else_is e x y ∙ ap (λ (z : Stmt). tree.if_else (expr e) (stmt z) (stmt y.value)) (sym first)
    ∙ ap (λ (z : Stmt). tree.if_else (expr e) (stmt p) (stmt z)) (sym second)

pub for_as : (s p : Stmt) (v : Named) (a z l : Expr) (b : Box Stmt Global) → s ≡ shapes.For v a z l b → p ≡ b.value →
    stmt s ≡ tree.for v (expr a) (expr z) (expr l) (stmt p)
for_as s p v a z l b is same = ap stmt is ∙ for_is v a z l b ∙ ap (λ (x : Stmt). tree.for v (expr a) (expr z) (expr l) (stmt x)) (sym same)

pub write_as : (s : Stmt) (n : Named) (spot : Spot) (ps qs : List PhraseText) (es fs : List Expr) → s ≡ shapes.Write n spot ps es → qs ≡ ps → fs ≡ es →
    stmt s ≡ tree.write n spot qs (exprs fs)
write_as s n spot ps qs es fs is p e =
    ap stmt is ∙ write_is n spot ps es ∙ ap (λ xs. tree.write n spot xs (exprs es)) (sym p) ∙ ap (λ (xs : List Expr). tree.write n spot qs (exprs xs)) (sym e)
