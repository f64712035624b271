-- The headings of a tree: each parameter is specified, as in each accepted program (rule WrongType).
use Rattle.algol_tree.specs.Plain as tree
use Rattle.algol_tree.specs.Plain.{PStmt, PStmts, PDecl, PDecls}
use Rattle.b67_fitting.specs.Typing.{HeadingSpecified}

abbrev mutual
  pub DeclSpecified : PDecl → Type 0
  DeclSpecified (tree.forward h) = HeadingSpecified h
  DeclSpecified (tree.procedure h s) = HeadingSpecified h × StmtSpecified s
  DeclSpecified d = Unit {0}

  pub DeclsSpecified : PDecls → Type 0
  DeclsSpecified tree.no_decls = Unit {0}
  DeclsSpecified (tree.decls d ds) = DeclSpecified d × DeclsSpecified ds

  pub StmtSpecified : PStmt → Type 0
  StmtSpecified (tree.label n s) = StmtSpecified s
  StmtSpecified (tree.block (tree.body spot ds ss)) = DeclsSpecified ds × StmtsSpecified ss
  StmtSpecified (tree.if_then c x) = StmtSpecified x
  StmtSpecified (tree.if_else c x y) = StmtSpecified x × StmtSpecified y
  StmtSpecified (tree.while c b) = StmtSpecified b
  StmtSpecified (tree.until b c) = StmtSpecified b
  StmtSpecified (tree.for v a s l b) = StmtSpecified b
  StmtSpecified (tree.thru e b) = StmtSpecified b
  StmtSpecified (tree.case e ss) = StmtsSpecified ss
  StmtSpecified _ = Unit {0}

  pub StmtsSpecified : PStmts → Type 0
  StmtsSpecified tree.no_stmts = Unit {0}
  StmtsSpecified (tree.stmts s ss) = StmtSpecified s × StmtsSpecified ss
