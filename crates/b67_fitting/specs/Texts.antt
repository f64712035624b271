-- The texts of a program are plain: each byte of a text of each WRITE is printable and no quote.
use Rattle.std.specs.Prelude.{ℕ, List}
use Rattle.std.specs.List.{AllByRecursion}
use Rattle.algol_tree.specs.declared.tree.PhraseText.{PhraseText}
use Rattle.algol_tree.specs.declared.tree.PhraseText.TheVariants as phrase
use Rattle.algol_tree.specs.First.{Source}
use Rattle.algol_tree.specs.Plain as tree
use Rattle.algol_tree.specs.Plain.{PStmt, PStmts, PDecl, PDecls, PBody, PProgram}
use Rattle.b67_templates.specs.Fitting.{IsPlainText}

abbrev pub PhrasePlain : PhraseText → Type 0
PhrasePlain (phrase.Text bytes) = IsPlainText bytes
PhrasePlain (phrase.Word word) = Unit {0}

abbrev pub PhrasesPlain : List PhraseText → Type 0
PhrasesPlain phrases = AllByRecursion PhrasePlain phrases

abbrev mutual
  pub StmtPlain : PStmt → Type 0
  StmtPlain (tree.label n s) = StmtPlain s
  StmtPlain (tree.block b) = BodyPlain b
  StmtPlain (tree.if_then c x) = StmtPlain x
  StmtPlain (tree.if_else c x y) = StmtPlain x × StmtPlain y
  StmtPlain (tree.while c b) = StmtPlain b
  StmtPlain (tree.until b c) = StmtPlain b
  StmtPlain (tree.for v a s l b) = StmtPlain b
  StmtPlain (tree.thru e b) = StmtPlain b
  StmtPlain (tree.case e ss) = StmtsPlain ss
  StmtPlain (tree.write n spot phrases es) = PhrasesPlain phrases
  StmtPlain _ = Unit {0}

  pub StmtsPlain : PStmts → Type 0
  StmtsPlain tree.no_stmts = Unit {0}
  StmtsPlain (tree.stmts s ss) = StmtPlain s × StmtsPlain ss

  pub DeclPlain : PDecl → Type 0
  DeclPlain (tree.procedure h s) = StmtPlain s
  DeclPlain _ = Unit {0}

  pub DeclsPlain : PDecls → Type 0
  DeclsPlain tree.no_decls = Unit {0}
  DeclsPlain (tree.decls d ds) = DeclPlain d × DeclsPlain ds

  pub BodyPlain : PBody → Type 0
  BodyPlain (tree.body spot ds ss) = DeclsPlain ds × StmtsPlain ss

abbrev pub HasPlainTexts : PProgram → Type 0
HasPlainTexts (tree.program b) = BodyPlain b

abbrev pub SourcesHavePlainTexts : Type 0
SourcesHavePlainTexts = (bytes : List ℕ) (p : PProgram) → Source bytes p → HasPlainTexts p
