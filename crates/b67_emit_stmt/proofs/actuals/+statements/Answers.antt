use Rattle.std.proofs.Common.{◌≡◌, ◌∙◌, ◌++◌, List, length, ap, sym, refl, append-nil, arith}
use Rattle.std.proofs.lemmas.Result.{on_ok_weaker}
use Rattle.algol_tree.specs.declared.tree.Stmt.{Stmt}
use Rattle.algol_tree.specs.Image.{expr, exprs, stmt, stmts}
use Rattle.algol_tree.specs.Plain.{PExpr}
use Rattle.b67_emitter.specs.Values.{meanings}
use Rattle.b67_emit_stmt.specs.Actuals.{images, cells_in_actual, cells_among, cells_in_stmt, cells_in_stmts}
use Rattle.b67_emit_stmt.proofs.Gathered.{joined, next_part, assign_cells, block_cells, if_then_as, while_as, until_as, thru_as, case_as}
use Rattle.b67_emit_stmt.proofs.Shapes.{for_as, if_else_as}
use Rattle.b67_emit_stmt.proofs.actuals.+statements.Goals as goal

pub in_stmt-returns-in_ok-in_exprs-in-Assign : goal.in_stmt-returns-in_ok-in_exprs-in-Assign
in_stmt-returns-in_ok-in_exprs-in-Assign t c =
    let told = meanings c.args.names.now in
    let w = c.in-Assign in
    let es = c.deref-in-Assign.result.now in
    on_ok_weaker c.in_expr.result
    (joined (images c.args.to.now.items) (images c.in_exprs.new.to.items) (images c.in_expr.new.to.items) (cells_among told (exprs es)) (cells_in_actual told (expr w.e))
    (cells_in_stmt told (stmt c.args.s.now)) (assign_cells told c.args.s.now w.v w.e es w.is (c.deref-in-Assign.ensures.value ∙ c.items.ensures)) c.in_ok-in_exprs-in-Assign.ensures)
    c.in_expr.ensures

pub in_stmt-returns-else-is_empty : goal.in_stmt-returns-else-is_empty
in_stmt-returns-else-is_empty t c =
    let told = meanings c.args.names.now in
    let b = c.in-Block.b in
    let old = images c.args.to.now.items in
    let n = c.items-in-Block.result.now.len in
    let many : n ≡ length b.decls = omega (arith, c.items-in-Block.result.now.ok.0, ap length c.items-in-Block.ensures) in
    sym (append-nil old) ∙ ap (λ (l : List PExpr). old ++ l) (sym (block_cells told c.args.s.now b c.in-Block.is c.is_empty.result n c.is_empty.ensures many c.if-is_empty.false))

pub in_stmt-returns-in-None : goal.in_stmt-returns-in-None
in_stmt-returns-in-None t c =
    let told = meanings c.args.names.now in
    let w = c.in-If in
    let x = c.deref-in-If.result.now in
    joined (images c.args.to.now.items) (images c.in_expr-in-If.new.to.items) (images c.in_stmt-in-If.new.to.items) (cells_in_actual told (expr w.c)) (cells_in_stmt told (stmt x)) (cells_in_stmt told (stmt c.args.s.now))
    (ap (cells_in_stmt told) (if_then_as c.args.s.now w.c w.x w.other x w.is c.in-None.is c.deref-in-If.ensures)) c.in_ok-in_expr-in-If.ensures c.in_ok-in_stmt-in-If.ensures

pub in_stmt-returns-in-Some : goal.in_stmt-returns-in-Some
in_stmt-returns-in-Some t c =
    let told = meanings c.args.names.now in
    let w = c.in-If in
    let x = c.deref-in-If.result.now in
    let y = c.deref-in-Some.result.now in
    let old = images c.args.to.now.items in
    let first = images c.in_expr-in-If.new.to.items in
    let second = images c.in_stmt-in-If.new.to.items in
    on_ok_weaker c.in_stmt-in-Some.result
    (joined old second (images c.in_stmt-in-Some.new.to.items) (cells_in_actual told (expr w.c) ++ cells_in_stmt told (stmt x)) (cells_in_stmt told (stmt y)) (cells_in_stmt told (stmt c.args.s.now))
    (ap (cells_in_stmt told) (if_else_as c.args.s.now x y w.c w.x w.other c.in-Some.y w.is c.in-Some.is c.deref-in-If.ensures c.deref-in-Some.ensures))
    (joined old first second (cells_in_actual told (expr w.c)) (cells_in_stmt told (stmt x)) (cells_in_actual told (expr w.c) ++ cells_in_stmt told (stmt x)) refl c.in_ok-in_expr-in-If.ensures c.in_ok-in_stmt-in-If.ensures))
    c.in_stmt-in-Some.ensures

pub in_stmt-returns-in_ok-in_expr-in-While : goal.in_stmt-returns-in_ok-in_expr-in-While
in_stmt-returns-in_ok-in_expr-in-While t c =
    let told = meanings c.args.names.now in
    let w = c.in-While in
    let x = c.deref-in-While.result.now in
    on_ok_weaker c.in_stmt-in-While.result
    (joined (images c.args.to.now.items) (images c.in_expr-in-While.new.to.items) (images c.in_stmt-in-While.new.to.items) (cells_in_actual told (expr w.c)) (cells_in_stmt told (stmt x)) (cells_in_stmt told (stmt c.args.s.now))
    (ap (cells_in_stmt told) (while_as c.args.s.now w.c w.b x w.is c.deref-in-While.ensures)) c.in_ok-in_expr-in-While.ensures)
    c.in_stmt-in-While.ensures

pub in_stmt-returns-in_ok-in_stmt-in-Until : goal.in_stmt-returns-in_ok-in_stmt-in-Until
in_stmt-returns-in_ok-in_stmt-in-Until t c =
    let told = meanings c.args.names.now in
    let w = c.in-Until in
    let x = c.deref-in-Until.result.now in
    on_ok_weaker c.in_expr-in-Until.result
    (joined (images c.args.to.now.items) (images c.in_stmt-in-Until.new.to.items) (images c.in_expr-in-Until.new.to.items) (cells_in_stmt told (stmt x)) (cells_in_actual told (expr w.c)) (cells_in_stmt told (stmt c.args.s.now))
    (ap (cells_in_stmt told) (until_as c.args.s.now w.b w.c x w.is c.deref-in-Until.ensures)) c.in_ok-in_stmt-in-Until.ensures)
    c.in_expr-in-Until.ensures

pub in_stmt-returns-in_ok-in_expr-in-For-3 : goal.in_stmt-returns-in_ok-in_expr-in-For-3
in_stmt-returns-in_ok-in_expr-in-For-3 t c =
    let told = meanings c.args.names.now in
    let w = c.in-For in
    let x = c.deref-in-For.result.now in
    let a = cells_in_actual told (expr w.a) in
    let p = cells_in_actual told (expr w.s) in
    let l = cells_in_actual told (expr w.l) in
    let old = images c.args.to.now.items in
    let first = images c.in_expr-in-For.new.to.items in
    let second = images c.in_expr-in-For-2.new.to.items in
    let third = images c.in_expr-in-For-3.new.to.items in
    on_ok_weaker c.in_stmt-in-For.result
    (joined old third (images c.in_stmt-in-For.new.to.items) (a ++ p ++ l) (cells_in_stmt told (stmt x)) (cells_in_stmt told (stmt c.args.s.now))
    (ap (cells_in_stmt told) (for_as c.args.s.now x w.field-0 w.a w.s w.l w.b w.is c.deref-in-For.ensures))
    (joined old second third (a ++ p) l (a ++ p ++ l) refl (joined old first second a p (a ++ p) refl c.in_ok-in_expr-in-For.ensures c.in_ok-in_expr-in-For-2.ensures) c.in_ok-in_expr-in-For-3.ensures))
    c.in_stmt-in-For.ensures

pub in_stmt-returns-in_ok-in_expr-in-Thru : goal.in_stmt-returns-in_ok-in_expr-in-Thru
in_stmt-returns-in_ok-in_expr-in-Thru t c =
    let told = meanings c.args.names.now in
    let w = c.in-Thru in
    let x = c.deref-in-Thru.result.now in
    on_ok_weaker c.in_stmt-in-Thru.result
    (joined (images c.args.to.now.items) (images c.in_expr-in-Thru.new.to.items) (images c.in_stmt-in-Thru.new.to.items) (cells_in_actual told (expr w.e)) (cells_in_stmt told (stmt x)) (cells_in_stmt told (stmt c.args.s.now))
    (ap (cells_in_stmt told) (thru_as c.args.s.now w.e w.b x w.is c.deref-in-Thru.ensures)) c.in_ok-in_expr-in-Thru.ensures)
    c.in_stmt-in-Thru.ensures

pub in_stmt-returns-in_ok-in_expr-in-Case : goal.in_stmt-returns-in_ok-in_expr-in-Case
in_stmt-returns-in_ok-in_expr-in-Case t c =
    let told = meanings c.args.names.now in
    let w = c.in-Case in
    let xs = c.deref-in-Case.result.now in
    on_ok_weaker c.in_stmts-in-Case.result
    (joined (images c.args.to.now.items) (images c.in_expr-in-Case.new.to.items) (images c.in_stmts-in-Case.new.to.items) (cells_in_actual told (expr w.e)) (cells_in_stmts told (stmts xs)) (cells_in_stmt told (stmt c.args.s.now))
    (ap (cells_in_stmt told) (case_as c.args.s.now w.e w.ss xs w.is (c.deref-in-Case.ensures.value ∙ c.items-in-Case.ensures))) c.in_ok-in_expr-in-Case.ensures)
    c.in_stmts-in-Case.ensures

pub in_stmts-statements-preserved : goal.in_stmts-statements-preserved
in_stmts-statements-preserved t c =
    let told = meanings c.args.names.now in
    let xs = c.args.ss.now in
    next_part (λ (l : List Stmt). cells_in_stmts told (stmts l)) (λ (s : Stmt). cells_in_stmt told (stmt s)) (λ s l. refl) xs c.statements.s-index c.s-item.result
    (images c.statements.to.items) (images c.in_stmt.new.to.items) (images c.args.to.now.items) (cells_in_stmts told (stmts xs)) c.statements-test.true c.s-item.is c.in_ok-in_stmt.ensures c.statements.invariant
