-- In a program whose procedures have names, those that each block declares have names.
use Rattle.std.proofs.Common.{List, ◌∷◌}
use Rattle.std.specs.List.{AllByRecursion}
use Rattle.algol_tree.specs.declared.token.Spot.{Spot}
use Rattle.algol_tree.specs.Blocks.{Block, Begin, of_statement, of_procedure, decls_of, blocks_of, blocks_in_decl, blocks_in_stmts, blocks_in_decls}
use Rattle.algol_tree.specs.Plain as tree
use Rattle.algol_tree.specs.Plain.{PStmt, PStmts, PDecl, PDecls}
use Rattle.b67_templates.specs.Names.{StmtNamed, StmtsNamed, DeclNamed, DeclsNamed}
use Rattle.b67_list.proofs.Lists.{each_both}

abbrev pub HasNamed : Block → Type 0
HasNamed b = DeclsNamed b.decls

abbrev pub HaveNamed : List Block → Type 0
HaveNamed bs = AllByRecursion HasNamed bs

body_named : (t : PStmt) → StmtNamed t → DeclsNamed (decls_of t)
body_named (tree.block (tree.body spot ds ss)) m = m.0
body_named t m = tt

mutual
  in_stmt : (t : PStmt) (begin : Begin) (outer : List Spot) → StmtNamed t → HaveNamed (blocks_of t begin outer)
  in_stmt (tree.label n s) begin outer m = in_stmt s of_statement outer m
  in_stmt (tree.block (tree.body spot tree.no_decls ss)) of_statement outer m = in_stmts ss outer m.1
  in_stmt (tree.block (tree.body spot (tree.decls d ds) ss)) of_statement outer m =
      let inner : List Spot = spot ∷ outer in
      (m.0, each_both HasNamed (blocks_in_decls (tree.decls d ds) inner) (blocks_in_stmts ss inner) (in_decls (tree.decls d ds) inner m.0) (in_stmts ss inner m.1))
  in_stmt (tree.block (tree.body spot ds ss)) of_procedure outer m =
      each_both HasNamed (blocks_in_decls ds outer) (blocks_in_stmts ss outer) (in_decls ds outer m.0) (in_stmts ss outer m.1)
  in_stmt (tree.if_then c x) begin outer m = in_stmt x of_statement outer m
  in_stmt (tree.if_else c x y) begin outer m =
      each_both HasNamed (blocks_of x of_statement outer) (blocks_of y of_statement outer) (in_stmt x of_statement outer m.0) (in_stmt y of_statement outer m.1)
  in_stmt (tree.while c b) begin outer m = in_stmt b of_statement outer m
  in_stmt (tree.until b c) begin outer m = in_stmt b of_statement outer m
  in_stmt (tree.for v a s l b) begin outer m = in_stmt b of_statement outer m
  in_stmt (tree.thru e b) begin outer m = in_stmt b of_statement outer m
  in_stmt (tree.case e ss) begin outer m = in_stmts ss outer m
  in_stmt tree.empty begin outer m = tt
  in_stmt (tree.assign v e) begin outer m = tt
  in_stmt (tree.call_of c) begin outer m = tt
  in_stmt (tree.go_to n) begin outer m = tt
  in_stmt (tree.process c task) begin outer m = tt
  in_stmt (tree.event act e) begin outer m = tt
  in_stmt (tree.write n spot phrases es) begin outer m = tt

  pub in_stmts : (ss : PStmts) (outer : List Spot) → StmtsNamed ss → HaveNamed (blocks_in_stmts ss outer)
  in_stmts tree.no_stmts outer m = tt
  in_stmts (tree.stmts s ss) outer m =
      each_both HasNamed (blocks_of s of_statement outer) (blocks_in_stmts ss outer) (in_stmt s of_statement outer m.0) (in_stmts ss outer m.1)

  in_decl : (d : PDecl) (outer : List Spot) → DeclNamed d → HaveNamed (blocks_in_decl d outer)
  in_decl (tree.procedure h s) outer m = (body_named s m.1, in_stmt s of_procedure (h.name.spot ∷ outer) m.1)
  in_decl (tree.simple kind ns) outer m = tt
  in_decl (tree.files ns) outer m = tt
  in_decl (tree.events ns) outer m = tt
  in_decl (tree.tasks ns) outer m = tt
  in_decl (tree.labels ns) outer m = tt
  in_decl (tree.arrays kind ns pairs) outer m = tt
  in_decl (tree.forward h) outer m = tt

  pub in_decls : (ds : PDecls) (outer : List Spot) → DeclsNamed ds → HaveNamed (blocks_in_decls ds outer)
  in_decls tree.no_decls outer m = tt
  in_decls (tree.decls d ds) outer m =
      each_both HasNamed (blocks_in_decl d outer) (blocks_in_decls ds outer) (in_decl d outer m.0) (in_decls ds outer m.1)
