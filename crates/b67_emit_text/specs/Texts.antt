-- The texts of a program: that of its outer block, and after it those of its procedures in the order in which they stand. Each has a
-- segment of its own.
use Rattle.std.specs.Prelude.{ℕ, ◌+◌, ◌≤◌, if◌then◌else◌, List, [], ◌∷◌, ◌++◌, map, length, Option, None}
use Rattle.algol_tree.specs.declared.token.Spot.{Spot}
use Rattle.algol_tree.specs.declared.tree.Kind.{Kind}
use Rattle.algol_tree.specs.declared.tree.Heading.{Heading}
use Rattle.algol_tree.specs.declared.tree.PhraseText.{PhraseText}
use Rattle.algol_tree.specs.Image.{stmt}
use Rattle.algol_tree.specs.Plain as tree
use Rattle.algol_tree.specs.Plain.{PStmt, PStmts, PDecl, PDecls, PBody}
use Rattle.algol_tree.specs.Blocks.{Begin, of_statement, of_procedure, decls_of, stmts_of, same_spot}
use Rattle.algol_tree.specs.Counts.{body_tokens, heading_tokens, stmt_tokens}
use Rattle.b67_ops.specs.declared.TheConstants.{MOST_LEVEL, OUTER_LEVEL}
use Rattle.b67_faithful.specs.Lines.{stmts_lines}
use Rattle.b67_emit_stmt.specs.Labels.{label_spots_in}
use Rattle.b67_emit_text.specs.declared.texts.Procedure.{Procedure}

-- A text: the level of its block and where that stands; of a procedure its name, how many parameters it has and the kind of its result; the
-- declarations and the statements; how many tokens it has
pub record Text : Type 0 where
  pub level : ℕ
  pub spot : Spot
  pub name : List ℕ
  pub parameters : ℕ
  pub result : Option Kind
  pub decls : PDecls
  pub stmts : PStmts
  pub tokens : ℕ

abbrev pub procedure_text : ℕ → Heading → PStmt → Text
procedure_text level h s =
    record {
      level = level;
      spot = h.name.spot;
      name = h.name.name;
      parameters = length h.params;
      result = h.kind;
      decls = decls_of s;
      stmts = stmts_of s;
      tokens = heading_tokens h + stmt_tokens s;
    }

abbrev pub text_of_procedure : Procedure → Text
text_of_procedure p = procedure_text p.level p.heading.now (stmt p.body.now)

-- where they stand
abbrev pub places_of : List Text → List Spot
places_of ts = map (λ (t : Text). t.spot) ts

abbrev pub outer_text : PBody → Text
outer_text (tree.body spot ds ss) =
    record { level = OUTER_LEVEL; spot = spot; name = []; parameters = 0; result = None; decls = ds; stmts = ss; tokens = body_tokens (tree.body spot ds ss) }

-- the level of what stands in a body, where that stands at a level
abbrev pub begin_level : Begin → PBody → ℕ → ℕ
begin_level of_statement (tree.body spot tree.no_decls ss) level = level
begin_level of_statement (tree.body spot (tree.decls d ds) ss) level = level + 1
begin_level of_procedure b level = level

-- those of the procedures that are declared within what stands at a level
abbrev mutual
  pub texts_of : PStmt → Begin → ℕ → List Text
  texts_of (tree.label n s) begin level = texts_of s of_statement level
  texts_of (tree.block b) begin level = texts_in_body b (begin_level begin b level)
  texts_of (tree.if_then c x) begin level = texts_of x of_statement level
  texts_of (tree.if_else c x y) begin level = texts_of x of_statement level ++ texts_of y of_statement level
  texts_of (tree.while c b) begin level = texts_of b of_statement level
  texts_of (tree.until b c) begin level = texts_of b of_statement level
  texts_of (tree.for v a s l b) begin level = texts_of b of_statement level
  texts_of (tree.thru e b) begin level = texts_of b of_statement level
  texts_of (tree.case e ss) begin level = texts_in_stmts ss level
  texts_of _ begin level = []

  pub texts_in_stmts : PStmts → ℕ → List Text
  texts_in_stmts tree.no_stmts level = []
  texts_in_stmts (tree.stmts s ss) level = texts_of s of_statement level ++ texts_in_stmts ss level

  pub texts_in_decl : PDecl → ℕ → List Text
  texts_in_decl (tree.procedure h s) level = procedure_text (level + 1) h s ∷ texts_of s of_procedure (level + 1)
  texts_in_decl _ level = []

  pub texts_in_decls : PDecls → ℕ → List Text
  texts_in_decls tree.no_decls level = []
  texts_in_decls (tree.decls d ds) level = texts_in_decl d level ++ texts_in_decls ds level

  pub texts_in_body : PBody → ℕ → List Text
  texts_in_body (tree.body spot ds ss) level = texts_in_decls ds level ++ texts_in_stmts ss level

abbrev pub texts : PBody → List Text
texts b = outer_text b ∷ texts_in_body b OUTER_LEVEL

-- the lines of these texts, one text after another
abbrev pub texts_lines : List Text → List (List PhraseText)
texts_lines [] = []
texts_lines (t ∷ ts) = stmts_lines t.stmts ++ texts_lines ts

-- ---- labels

-- the places at which the labels stand in these texts, in one text after another
abbrev pub text_spots : List Text → List Spot
text_spots [] = []
text_spots (t ∷ ts) = label_spots_in t.stmts ++ text_spots ts

-- how often a place is among these
abbrev pub spot_times : Spot → List Spot → ℕ
spot_times spot [] = 0
spot_times spot (s ∷ ss) = (if same_spot s spot then 1 else 0) + spot_times spot ss

-- no two labels stand at one place
abbrev pub StandOnce : List Text → Type 0
StandOnce ts = (spot : Spot) → spot_times spot (text_spots ts) ≤ 1

-- ---- levels

-- each block of them has a level that the machine has
abbrev mutual
  pub HaveLevels : PStmt → Begin → ℕ → Type 0
  HaveLevels (tree.label n s) begin level = HaveLevels s of_statement level
  HaveLevels (tree.block b) begin level = (begin_level begin b level ≤ MOST_LEVEL) × HaveLevelsBody b (begin_level begin b level)
  HaveLevels (tree.if_then c x) begin level = HaveLevels x of_statement level
  HaveLevels (tree.if_else c x y) begin level = HaveLevels x of_statement level × HaveLevels y of_statement level
  HaveLevels (tree.while c b) begin level = HaveLevels b of_statement level
  HaveLevels (tree.until b c) begin level = HaveLevels b of_statement level
  HaveLevels (tree.for v a s l b) begin level = HaveLevels b of_statement level
  HaveLevels (tree.thru e b) begin level = HaveLevels b of_statement level
  HaveLevels (tree.case e ss) begin level = HaveLevelsStmts ss level
  HaveLevels _ begin level = Unit {0}

  pub HaveLevelsStmts : PStmts → ℕ → Type 0
  HaveLevelsStmts tree.no_stmts level = Unit {0}
  HaveLevelsStmts (tree.stmts s ss) level = HaveLevels s of_statement level × HaveLevelsStmts ss level

  pub HaveLevelsDecl : PDecl → ℕ → Type 0
  HaveLevelsDecl (tree.procedure h s) level = (level + 1 ≤ MOST_LEVEL) × HaveLevels s of_procedure (level + 1)
  HaveLevelsDecl _ level = Unit {0}

  pub HaveLevelsDecls : PDecls → ℕ → Type 0
  HaveLevelsDecls tree.no_decls level = Unit {0}
  HaveLevelsDecls (tree.decls d ds) level = HaveLevelsDecl d level × HaveLevelsDecls ds level

  pub HaveLevelsBody : PBody → ℕ → Type 0
  HaveLevelsBody (tree.body spot ds ss) level = HaveLevelsDecls ds level × HaveLevelsStmts ss level
