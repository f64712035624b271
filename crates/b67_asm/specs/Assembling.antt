-- The code of a text.
use Rattle.std.specs.Prelude.{◌≡◌, ℕ, ◌+◌, List, [], ◌∷◌, Option, Some, None, Result, Ok, Err}
use Rattle.b67_ops.specs.declared.TheConstants.{OUTER_LEVEL}
use Rattle.b67_ops.specs.declared.Operator.{Operator as Op}
use Rattle.b67_segment.specs.declared.code.Segment.{Segment as Made}
use Rattle.b67_segment.specs.declared.code.Code.{Code}
use Rattle.b67_segment.specs.Operators.{Placed, filled}
use Rattle.b67_segment.specs.Syllables.{Spells}
use Rattle.b67_asm_text.specs.declared.item.Reading.{Reading}
use Rattle.b67_asm_text.specs.declared.item.Reading.TheVariants.{Segment, Level, Operator}
use Rattle.b67_asm_text.specs.Items.{readings, formats}
use Rattle.b67_asm.specs.declared.label.Standing.{Standing}
use Rattle.b67_asm.specs.declared.refusal.Rule.{Rule}
use Rattle.b67_asm.specs.declared.refusal.Refusal.{Refusal}
use Rattle.b67_asm.specs.declared.refusal.NotAssembled.{NotAssembled}
use Rattle.b67_asm.specs.declared.refusal.NotAssembled.TheVariants.{Refused, NoMemory}
use Rattle.b67_asm.specs.Labels.{labels_from, label_named}
use Rattle.b67_asm.specs.Rules.{first_broken, resolved}

-- one more operator at this level, where there is one
abbrev pub with_operator : ℕ → Result Op Rule → List Placed → List Placed
with_operator level (Ok operator) rest = record { level = level; operator = operator } ∷ rest
with_operator level (Err rule) rest = rest

-- the operators of the lines from here to the next SEGMENT, each at its level, where the segment has these labels
abbrev pub operators_from : (List ℕ → Option Standing) → ℕ → List Reading → List Placed
operators_from labels level [] = []
operators_from labels level (Segment ∷ rest) = []
operators_from labels level (Level next ∷ rest) = operators_from labels next rest
operators_from labels level (Operator written ∷ rest) = with_operator level (resolved labels level written) (operators_from labels level rest)
operators_from labels level (reading ∷ rest) = operators_from labels level rest

-- the operators of a segment that has these lines, the first of which has this number
abbrev pub operators_in : ℕ → List Reading → List Placed
operators_in line rest = operators_from (label_named (labels_from line 0 rest)) OUTER_LEVEL rest

-- the operators of each segment of lines, the first of which has this number
abbrev pub segments_from : ℕ → List Reading → List (List Placed)
segments_from line [] = []
segments_from line (Segment ∷ rest) = operators_in (line + 1) rest ∷ segments_from (line + 1) rest
segments_from line (reading ∷ rest) = segments_from (line + 1) rest

-- each segment is the code of its operators, and of NOOPs that fill its last word
abbrev pub AreCode : List (List Placed) → List Made → Type 0
AreCode [] [] = Unit {0}
AreCode [] (segment ∷ segments) = ⊥
AreCode (operators ∷ more) [] = ⊥
AreCode (operators ∷ more) (segment ∷ segments) = Spells (filled operators) segment × AreCode more segments

-- the code is that of the text: no line breaks a rule, the segments are the code of its operators, and the formats are its own
pub record Assembles (bytes : List ℕ) (code : Code) : Type 0 where
  pub whole : first_broken (readings bytes) ≡ None
  pub segments : AreCode (segments_from 1 (readings bytes)) code.segments
  pub formats : code.formats ≡ formats bytes

-- the text is refused: the first line that breaks a rule is this one, and the lowest rule that it breaks is this one
abbrev pub IsRefusedText : List ℕ → Refusal → Type 0
IsRefusedText bytes refusal = first_broken (readings bytes) ≡ Some refusal

-- this refusal is the first of lines, or memory ran out
abbrev pub IsFirst : NotAssembled → Option Refusal → Type 0
IsFirst (Refused refusal) first = first ≡ Some refusal
IsFirst NoMemory first = Unit {0}

-- a refusal of a text, or want of memory
abbrev pub AssemblerRefuses : NotAssembled → List ℕ → Type 0
AssemblerRefuses e bytes = IsFirst e (first_broken (readings bytes))
