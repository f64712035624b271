-- The text that is written for a code.
use Rattle.std.specs.Prelude.{◌≡◌, ℕ, ◌==◌, if◌then◌else◌, List, [], ◌∷◌, ◌++◌, map, codes}
use Rattle.std.specs.List.{flat_map}
use Rattle.std.specs.Fmt.{decimal}
use Rattle.b67_ops.specs.declared.Operator.{Operator}
use Rattle.b67_ops.specs.Spelling.{OperatorStands}
use Rattle.b67_segment.specs.declared.code.Format.{Format}
use Rattle.b67_segment.specs.declared.code.Segment.{Segment}
use Rattle.b67_segment.specs.declared.code.Code.{Code}
use Rattle.b67_listing.specs.Operators.{ListedOperator, operator_text}
use Rattle.b67_listing.specs.Formats.{phrases_text}
use Rattle.b67_listing.specs.Listings.{IsSegment}

-- lines, each with an LF after it
abbrev pub line_text : List ℕ → List ℕ
line_text line = line ++ 10 ∷ []

abbrev pub lines_text : List (List ℕ) → List ℕ
lines_text lines = flat_map line_text lines

-- the line of a level after another, none after the same
abbrev pub level_change : ℕ → ℕ → List (List ℕ)
level_change before level = if level == before then [] else ((codes "LEVEL " ++ decimal level) ∷ [])

-- the lines of operators after one of this level
abbrev pub lines_after : ℕ → List ListedOperator → List (List ℕ)
lines_after before [] = []
lines_after before (first ∷ more) = level_change before first.level ++ (operator_text first.operator ∷ lines_after first.level more)

-- the lines of a segment that has these operators
abbrev pub segment_source : List ListedOperator → List (List ℕ)
segment_source operators = codes "SEGMENT" ∷ lines_after 0 operators

abbrev pub format_source : Format → List ℕ
format_source format = codes "FORMAT <" ++ phrases_text format.phrases ++ codes ">"

-- these are the operators of each segment
abbrev pub AreOperators : List Segment → List (List ListedOperator) → Type 0
AreOperators [] [] = Unit {0}
AreOperators [] (operators ∷ more) = ⊥
AreOperators (segment ∷ segments) [] = ⊥
AreOperators (segment ∷ segments) (operators ∷ more) = IsSegment segment operators × AreOperators segments more

-- the text is what is written for the code
pub record IsSource (code : Code) (text : List ℕ) : Type 0 where
  pub operators : List (List ListedOperator)
  pub are : AreOperators code.segments operators
  pub text_is : text ≡ lines_text (flat_map segment_source operators ++ map format_source code.formats)

-- the line of the operator at this place and level is added, and next is the place after it
pub record AddsOperator (bytes : List ℕ) (at level : ℕ) (old new : List ℕ) (next : ℕ) : Type 0 where
  pub operator : Operator
  pub stands : OperatorStands bytes at level operator next
  pub added : new ≡ old ++ line_text (operator_text operator)

-- the lines of a segment are added
pub record AddsSegment (segment : Segment) (old new : List ℕ) : Type 0 where
  pub operators : List ListedOperator
  pub segment_is : IsSegment segment operators
  pub added : new ≡ old ++ lines_text (segment_source operators)

-- the lines of segments are added
pub record AddsSegments (segments : List Segment) (old new : List ℕ) : Type 0 where
  pub operators : List (List ListedOperator)
  pub are : AreOperators segments operators
  pub added : new ≡ old ++ lines_text (flat_map segment_source operators)
