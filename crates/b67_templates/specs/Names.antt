-- Each procedure of a program has a name, as in each tree that was read from a text: by its name a block is known as that of a procedure.
use Rattle.std.specs.Prelude.{◌≡◌, ℕ, false, List, []}
use Rattle.algol_tree.specs.First.{Source}
use Rattle.algol_tree.specs.Plain as tree
use Rattle.algol_tree.specs.Plain.{PStmt, PStmts, PDecl, PDecls, PBody, PProgram}
use Rattle.algol_tree.specs.Sorts.{same_name}

abbrev mutual
  pub StmtNamed : PStmt → Type 0
  StmtNamed (tree.label n s) = StmtNamed s
  StmtNamed (tree.block b) = BodyNamed b
  StmtNamed (tree.if_then c x) = StmtNamed x
  StmtNamed (tree.if_else c x y) = StmtNamed x × StmtNamed y
  StmtNamed (tree.while c b) = StmtNamed b
  StmtNamed (tree.until b c) = StmtNamed b
  StmtNamed (tree.for v a s l b) = StmtNamed b
  StmtNamed (tree.thru e b) = StmtNamed b
  StmtNamed (tree.case e ss) = StmtsNamed ss
  StmtNamed _ = Unit {0}

  pub StmtsNamed : PStmts → Type 0
  StmtsNamed tree.no_stmts = Unit {0}
  StmtsNamed (tree.stmts s ss) = StmtNamed s × StmtsNamed ss

  pub DeclNamed : PDecl → Type 0
  DeclNamed (tree.procedure h s) = (same_name h.name.name [] ≡ false) × StmtNamed s
  DeclNamed _ = Unit {0}

  pub DeclsNamed : PDecls → Type 0
  DeclsNamed tree.no_decls = Unit {0}
  DeclsNamed (tree.decls d ds) = DeclNamed d × DeclsNamed ds

  pub BodyNamed : PBody → Type 0
  BodyNamed (tree.body spot ds ss) = DeclsNamed ds × StmtsNamed ss

abbrev pub HasNames : PProgram → Type 0
HasNames (tree.program b) = BodyNamed b

abbrev pub SourcesHaveNames : Type 0
SourcesHaveNames = (bytes : List ℕ) (p : PProgram) → Source bytes p → HasNames p
