-- The texts of a program where their code is emitted, each in a segment of its own.
use Rattle.std.specs.Prelude.{ℕ, ◌+◌, ◌≤◌, Option, List}
use Rattle.algol_tree.specs.declared.TheConstants.{MOST_BLOCK_CELLS}
use Rattle.b67_ops.specs.declared.TheConstants.{MOST_LEVEL, OUTER_LEVEL}
use Rattle.b67_segment.specs.declared.TheConstants.{MOST_SEGMENT_SYLLABLES}
use Rattle.b67_segment.specs.declared.code.Format.{Format}
use Rattle.b67_segment.specs.declared.code.Segment.{Segment}
use Rattle.b67_emit_stmt.specs.declared.draft.Known.{Known}
use Rattle.b67_emit_stmt.specs.Bodies.{HaveInside, IsSmallBlock}
use Rattle.b67_emit_stmt.specs.Fits.{InsideFits}
use Rattle.b67_emit_stmt.specs.Lengths.{celled_in}
use Rattle.b67_emit_stmt.specs.Places.{Place}
use Rattle.b67_emit_text.specs.Codes.{CodeIsMade, IsNear, result_index, segment_syllables, zeros_for}
use Rattle.b67_emit_text.specs.Texts.{Text}

-- the index of the result's cell, where the text has a result
abbrev pub returned_in : Text → Option ℕ
returned_in t = result_index t.result t.parameters

abbrev pub code_syllables : Known → Text → ℕ
code_syllables s t = segment_syllables s t.level (returned_in t) t.decls t.stmts

-- its parts fit
abbrev pub TextFits : Place → Known → Text → Type 0
TextFits sc s t = InsideFits sc s t.level t.decls t.stmts

-- What is wanted of a text whose code is emitted: its block has a level that the machine has and no more cells than a block may have, its
-- parts fit, and its code has room in a segment.
pub record TextCanStand (s : Known) (t : Text) : Type 0 where
  pub outer : OUTER_LEVEL ≤ t.level
  pub most : t.level ≤ MOST_LEVEL
  pub parameters : t.parameters ≤ MOST_BLOCK_CELLS
  pub cell : IsNear (returned_in t)
  pub small : IsSmallBlock (zeros_for (returned_in t) t.decls) t.decls (celled_in s t.decls t.stmts)
  pub fits : HaveInside s t.level t.decls t.stmts
  pub room : code_syllables s t + 5 ≤ MOST_SEGMENT_SYLLABLES

-- the segment and these formats are made of the text
abbrev pub IsMadeOf : Known → Text → Segment → List Format → Type 0
IsMadeOf s t segment formats = CodeIsMade s t.level (returned_in t) t.decls t.stmts segment formats
