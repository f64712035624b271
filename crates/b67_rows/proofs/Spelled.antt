-- The text of each block stands in a segment of the code.
use Rattle.std.proofs.Common.{◌≡◌, ℕ, ◌∷◌, length, filter, Some, arith}
use Rattle.b67_rows.proofs.Prelude.{slice_get, around, is_procedure, segment_of, Spells, Code, Segment}
use Rattle.algol_tree.specs.Plain.{PProgram}
use Rattle.algol_tree.specs.Scopes.{scopes_of}
use Rattle.b67_templates.specs.Programs.{Texts, ProgramAt}
use Rattle.b67_rows.proofs.Numbers.{get_within}
use Rattle.b67_rows.proofs.Segmented.{before_whole, segment_low}

-- the segment of this number is that of its operators
pub record HasText (code : Code) (texts : Texts) (number : ℕ) : Type 0 where
  pub segment : Segment
  pub there : slice_get code.segments number ≡ Some segment
  pub spells : Spells (texts.placed number) segment

abbrev pub HaveTexts : PProgram → Code → Texts → Type 0
HaveTexts tree code texts = (j : ℕ) → HasText code texts (segment_of (scopes_of tree).blocks j)

pub have_texts : (tree : PProgram) (code : Code) (program : ProgramAt code tree) → HaveTexts tree code program.texts
have_texts tree code program j =
    let bs = (scopes_of tree).blocks in
    let there = get_within code.segments (segment_of bs j) (omega (arith, program.many, segment_low bs (j ∷ around bs j) (length (filter is_procedure bs)) (before_whole bs))) in
    record { segment = there.0; there = there.1; spells = program.spells (segment_of bs j) there.0 there.1 }
