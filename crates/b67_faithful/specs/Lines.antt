-- The lines of a program, and the formats that they want. A line is told by the phrases of the WRITE that writes it.
use Rattle.std.specs.Prelude.{List, [], ◌∷◌, ◌++◌, map}
use Rattle.algol_tree.specs.declared.tree.PhraseText.{PhraseText}
use Rattle.algol_tree.specs.declared.tree.PhraseText.TheVariants as phrase
use Rattle.algol_tree.specs.Plain as tree
use Rattle.algol_tree.specs.Plain.{PStmt, PStmts, PDecl, PDecls, PBody, PProgram}
use Rattle.b67_segment.specs.declared.code.Format.{Format}
use Rattle.b67_segment.specs.declared.code.Phrase.{Phrase}
use Rattle.b67_segment.specs.declared.code.Phrase.TheVariants as parts
use Rattle.b67_templates.specs.Code.{word_part}

-- the lines of a text: those of its own statements, with the blocks in it and without the procedures that are declared in it
abbrev mutual
  pub stmt_lines : PStmt → List (List PhraseText)
  stmt_lines tree.empty = []
  stmt_lines (tree.label n s) = stmt_lines s
  stmt_lines (tree.assign v e) = []
  stmt_lines (tree.call_of c) = []
  stmt_lines (tree.go_to n) = []
  stmt_lines (tree.block b) = body_lines b
  stmt_lines (tree.if_then c x) = stmt_lines x
  stmt_lines (tree.if_else c x y) = stmt_lines x ++ stmt_lines y
  stmt_lines (tree.while c b) = stmt_lines b
  stmt_lines (tree.until b c) = stmt_lines b
  stmt_lines (tree.for v a s l b) = stmt_lines b
  stmt_lines (tree.thru e b) = stmt_lines b
  stmt_lines (tree.case e ss) = stmts_lines ss
  stmt_lines (tree.process c task) = []
  stmt_lines (tree.event act e) = []
  stmt_lines (tree.write n spot phrases es) = phrases ∷ []

  pub stmts_lines : PStmts → List (List PhraseText)
  stmts_lines tree.no_stmts = []
  stmts_lines (tree.stmts s ss) = stmt_lines s ++ stmts_lines ss

  pub body_lines : PBody → List (List PhraseText)
  body_lines (tree.body spot ds ss) = stmts_lines ss

-- the lines of the procedures that are declared within a statement, a declaration or a body, each before those that are declared in it
abbrev mutual
  pub lines_within : PStmt → List (List PhraseText)
  lines_within tree.empty = []
  lines_within (tree.label n s) = lines_within s
  lines_within (tree.assign v e) = []
  lines_within (tree.call_of c) = []
  lines_within (tree.go_to n) = []
  lines_within (tree.block b) = lines_within_body b
  lines_within (tree.if_then c x) = lines_within x
  lines_within (tree.if_else c x y) = lines_within x ++ lines_within y
  lines_within (tree.while c b) = lines_within b
  lines_within (tree.until b c) = lines_within b
  lines_within (tree.for v a s l b) = lines_within b
  lines_within (tree.thru e b) = lines_within b
  lines_within (tree.case e ss) = lines_within_stmts ss
  lines_within (tree.process c task) = []
  lines_within (tree.event act e) = []
  lines_within (tree.write n spot phrases es) = []

  pub lines_within_stmts : PStmts → List (List PhraseText)
  lines_within_stmts tree.no_stmts = []
  lines_within_stmts (tree.stmts s ss) = lines_within s ++ lines_within_stmts ss

  pub lines_within_decl : PDecl → List (List PhraseText)
  lines_within_decl (tree.simple kind ns) = []
  lines_within_decl (tree.files ns) = []
  lines_within_decl (tree.events ns) = []
  lines_within_decl (tree.tasks ns) = []
  lines_within_decl (tree.labels ns) = []
  lines_within_decl (tree.arrays kind ns pairs) = []
  lines_within_decl (tree.forward h) = []
  lines_within_decl (tree.procedure h s) = stmt_lines s ++ lines_within s

  pub lines_within_decls : PDecls → List (List PhraseText)
  lines_within_decls tree.no_decls = []
  lines_within_decls (tree.decls d ds) = lines_within_decl d ++ lines_within_decls ds

  pub lines_within_body : PBody → List (List PhraseText)
  lines_within_body (tree.body spot ds ss) = lines_within_decls ds ++ lines_within_stmts ss

-- the lines of a program in the order of its segments: those of its own text, and after them those of its procedures
abbrev pub lines_in : PBody → List (List PhraseText)
lines_in b = body_lines b ++ lines_within_body b

abbrev pub lines_of : PProgram → List (List PhraseText)
lines_of (tree.program b) = lines_in b

-- the part of a line that a phrase stands for
abbrev pub part_for : PhraseText → Phrase
part_for (phrase.Text bytes) = parts.Text bytes
part_for (phrase.Word letters) = word_part letters

-- the format of a line, part by part
abbrev pub format_for : List PhraseText → Format
format_for phrases = record { phrases = map part_for phrases }

-- .. of each line
abbrev pub formats_for : List (List PhraseText) → List Format
formats_for lines = map format_for lines
