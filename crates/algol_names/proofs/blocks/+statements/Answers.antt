use Rattle.std.proofs.Common.{List, map, refl}
use Rattle.algol_tree.specs.declared.tree.Decl.{Decl}
use Rattle.algol_tree.specs.declared.tree.Stmt.{Stmt}
use Rattle.algol_tree.specs.Blocks as plain
use Rattle.algol_tree.specs.Image.{decl, decls, stmt, stmts}
use Rattle.algol_cells.specs.SeenScope.{block}
use Rattle.algol_names.proofs.Adding.{list_step}
use Rattle.algol_names.proofs.blocks.+statements.Goals as goal

pub add_in_stmts-statements-preserved : goal.add_in_stmts-statements-preserved
add_in_stmts-statements-preserved t c =
    let outer = c.args.outer.now in
    list_step (λ (ss : List Stmt). plain.blocks_in_stmts (stmts ss) outer) (λ (s : Stmt). plain.blocks_of (stmt s) plain.of_statement outer) (λ s ss. refl) c.args.ss.now c.statements.s-index c.s-item.result
    (map block c.statements.blocks.items) (map block c.add_in_stmt.new.blocks.items) _ c.statements-test.true c.s-item.is c.in_ok-add_in_stmt.ensures c.statements.invariant

pub add_in_decls-declarations-preserved : goal.add_in_decls-declarations-preserved
add_in_decls-declarations-preserved t c =
    let outer = c.args.outer.now in
    list_step (λ (ds : List Decl). plain.blocks_in_decls (decls ds) outer) (λ (d : Decl). plain.blocks_in_decl (decl d) outer) (λ d ds. refl) c.args.ds.now c.declarations.d-index c.d-item.result
    (map block c.declarations.blocks.items) (map block c.add_in_decl.new.blocks.items) _ c.declarations-test.true c.d-item.is c.in_ok-add_in_decl.ensures c.declarations.invariant
