use Rattle.std.proofs.Common.{◌∙◌, Option, subst}
use Rattle.std.specs.Prelude.{OnOk}
use Rattle.algol_tree.specs.declared.token.Spot.{Spot}
use Rattle.algol_paths.specs.Arrays.{Lows}
use Rattle.algol_lows.specs.Lows.{LowsAdd}
use Rattle.algol_lows.proofs.LowerBounds.{case_within, decls_step, else_added, on_ok, stmts_step, then_added}
use Rattle.algol_lows.proofs.bounds.+statements.Goals as goal

pub add_in_stmt-returns-in-Case : goal.add_in_stmt-returns-in-Case
add_in_stmt-returns-in-Case t c =
    subst (λ (found : Spot → Option Lows). OnOk c.add_in_stmts.result (LowsAdd c.args.table.now c.add_in_stmts.new.table found))
    (case_within c.args.scopes.now c.args.s.now c.in-Case.field-0 c.in-Case.ss c.as_slice.result.now c.in-Case.is (c.as_slice.ensures.value ∙ c.items.ensures))
    c.add_in_stmts.ensures

pub add_in_stmt-returns-in-None : goal.add_in_stmt-returns-in-None
add_in_stmt-returns-in-None t c =
    then_added c.args.scopes.now c.args.s.now c.in-If.field-0 c.in-If.x c.in-If.y c.deref-in-If.result.now c.args.table.now c.add_in_stmt-in-If.new.table c.in-If.is c.in-None.is c.deref-in-If.ensures
    c.in_ok-add_in_stmt-in-If.ensures

pub add_in_stmt-returns-in-Some : goal.add_in_stmt-returns-in-Some
add_in_stmt-returns-in-Some t c =
    on_ok c.add_in_stmt-in-Some.result
    (else_added c.args.scopes.now c.args.s.now c.in-If.field-0 c.in-If.x c.in-Some.y c.in-If.y c.deref-in-If.result.now c.deref-in-Some.result.now c.args.table.now c.add_in_stmt-in-If.new.table
    c.add_in_stmt-in-Some.new.table c.in-If.is c.in-Some.is c.deref-in-If.ensures c.deref-in-Some.ensures c.in_ok-add_in_stmt-in-If.ensures)
    c.add_in_stmt-in-Some.ensures

pub add_in_stmts-statements-preserved : goal.add_in_stmts-statements-preserved
add_in_stmts-statements-preserved t c = λ spot.
    stmts_step c.args.scopes.now c.args.ss.now c.statements.s-index c.s-item.result c.statements.table c.add_in_stmt.new.table c.statements-test.true c.s-item.is c.in_ok-add_in_stmt.ensures spot
    ∙ c.statements.invariant spot

pub add_in_decls-declarations-preserved : goal.add_in_decls-declarations-preserved
add_in_decls-declarations-preserved t c = λ spot.
    decls_step c.args.scopes.now c.args.ds.now c.declarations.d-index c.d-item.result c.declarations.table c.add_in_decl.new.table c.declarations-test.true c.d-item.is c.in_ok-add_in_decl.ensures spot
    ∙ c.declarations.invariant spot
