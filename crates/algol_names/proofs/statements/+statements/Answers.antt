use Rattle.std.proofs.Common.{List, length, refl}
use Rattle.algol_tree.specs.declared.tree.Decl.{Decl}
use Rattle.algol_tree.specs.declared.tree.Stmt.{Stmt}
use Rattle.algol_tree.specs.Blocks.{of_statement}
use Rattle.algol_tree.specs.Image.{decl, decls, stmt, stmts}
use Rattle.algol_names.specs.Found.{in_decl, in_decls, in_stmt, in_stmts}
use Rattle.algol_names.proofs.Adding.{list_step}
use Rattle.algol_names.proofs.statements.+statements.Goals as goal

pub add_in_stmts-statements-preserved : goal.add_in_stmts-statements-preserved
add_in_stmts-statements-preserved t c =
    let k = length c.args.outer.now in
    list_step (λ (ss : List Stmt). in_stmts (stmts ss) k) (λ (s : Stmt). in_stmt (stmt s) of_statement k) (λ s ss. refl) c.args.ss.now c.statements.s-index c.s-item.result
    c.statements.names.items c.add_in_stmt.new.names.items _ c.statements-test.true c.s-item.is c.in_ok-add_in_stmt.ensures c.statements.invariant

pub add_in_decls-declarations-preserved : goal.add_in_decls-declarations-preserved
add_in_decls-declarations-preserved t c =
    let k = length c.args.outer.now in
    list_step (λ (ds : List Decl). in_decls (decls ds) k) (λ (d : Decl). in_decl (decl d) k) (λ d ds. refl) c.args.ds.now c.declarations.d-index c.d-item.result
    c.declarations.names.items c.add_in_decl.new.names.items _ c.declarations-test.true c.d-item.is c.in_ok-add_in_decl.ensures c.declarations.invariant
