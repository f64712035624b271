-- The operators of a segment, and the listing of a code.
use Rattle.std.specs.Prelude.{◌≡◌, ℕ, ◌+◌, ◌<◌, ◌≤◌, ◌≢◌, ◌^◌, ◌==◌, if◌then◌else◌, List, [], ◌∷◌, ◌++◌, length, map, codes}
use Rattle.std.specs.List.{All}
use Rattle.std.specs.Fmt.{decimal}
use Rattle.b67_segment.specs.declared.TheConstants.{MOST_SEGMENT_WORDS}
use Rattle.b67_ops.specs.declared.TheConstants.{OUTER_LEVEL, MOST_LEVEL}
use Rattle.b67_ops.specs.declared.Operator.{Operator}
use Rattle.b67_ops.specs.Spelling.{OperatorStands}
use Rattle.b67_segment.specs.declared.code.Mark.{Mark}
use Rattle.b67_segment.specs.declared.code.Segment.{Segment}
use Rattle.b67_segment.specs.declared.code.Phrase.{Phrase}
use Rattle.b67_segment.specs.declared.code.Phrase.TheVariants.{Text, Number, Blanks}
use Rattle.b67_segment.specs.declared.code.Format.{Format}
use Rattle.b67_segment.specs.declared.code.Code.{Code}
use Rattle.b67_segment.specs.Syllables.{syllables}
use Rattle.b67_listing.specs.Operators.{ListedOperator, operator_line}
use Rattle.b67_listing.specs.Formats.{format_lines}

-- operators stand one after another, each at its place and at a level from the outer block's to the deepest, from this place on to the end of the syllables
abbrev pub StandInOrder : List ℕ → ℕ → List ListedOperator → Type 0
StandInOrder bytes at [] = at ≡ length bytes
StandInOrder bytes at (first ∷ more) =
    (first.place ≡ at) × (OUTER_LEVEL ≤ first.level) × (first.level ≤ MOST_LEVEL) × ((next : ℕ) × OperatorStands bytes at first.level first.operator next × StandInOrder bytes next more)

-- an operator stands at this place and this level
abbrev pub HasOperator : List ℕ → ℕ → ℕ → Type 0
HasOperator bytes at level = (op : Operator) × (next : ℕ) × OperatorStands bytes at level op next

-- the marks of operators that follow one of this level: one at each where the level changes
abbrev pub marks_of : ℕ → List ListedOperator → List Mark
marks_of before [] = []
marks_of before (first ∷ more) =
    if first.level == before then marks_of first.level more else record { place = first.place; level = first.level } ∷ marks_of first.level more

-- the segment has a word, and at most as many as a segment may have, of 48 bits; these operators fill it, and its marks are theirs, the first one at place 0
pub record IsSegment (segment : Segment) (operators : List ListedOperator) : Type 0 where
  pub some : 1 ≤ length segment.words
  pub few : length segment.words ≤ MOST_SEGMENT_WORDS
  pub words : All (λ (word : ℕ). word < 2 ^ 48) segment.words
  pub filled : StandInOrder (syllables segment.words) 0 operators
  pub marked : segment.marks ≡ marks_of 0 operators

-- operators fill the segment
abbrev pub HasOperators : Segment → Type 0
HasOperators segment = (operators : List ListedOperator) × IsSegment segment operators

abbrev pub AreListable : List Segment → Type 0
AreListable segments = All HasOperators segments

-- a text of a format can stand between quotes, and the width of another phrase has 32 bits
abbrev pub IsPhrase : Phrase → Type 0
IsPhrase (Text text) = All (λ (b : ℕ). (32 ≤ b) × (b ≤ 126) × (b ≢ 34)) text
IsPhrase (Number width) = width < 2 ^ 32
IsPhrase (Blanks width) = width < 2 ^ 32

-- the code can be listed, so that its listing can be read back: operators fill its segments, and the phrases of its formats can stand in a line
pub record IsListable (code : Code) : Type 0 where
  pub segments : AreListable code.segments
  pub formats : All (λ (format : Format). All IsPhrase format.phrases) code.formats

-- the head line of a segment: its number and how many words it has
abbrev pub segment_line : ℕ → ℕ → List ℕ
segment_line number words = codes "SEGMENT " ++ decimal number ++ (codes " " ++ decimal words)

-- a segment with its number and its operators
abbrev pub segment_lines : ℕ → Segment → List ListedOperator → List (List ℕ)
segment_lines number segment operators = segment_line number (length segment.words) ∷ map operator_line operators

-- these are the lines of the segments, which are numbered from the given number on
pub data SegmentsText : ℕ → List Segment → List (List ℕ) → Type 0 where
  none : (number : ℕ) → SegmentsText number [] []
  more : (number : ℕ) (segment : Segment) (operators : List ListedOperator) (segments : List Segment) (lines : List (List ℕ)) →
      IsSegment segment operators → SegmentsText (number + 1) segments lines →
      SegmentsText number (segment ∷ segments) (segment_lines number segment operators ++ lines)

-- these are the lines of the code: those of its segments, and then those of its formats
pub record ListingText (code : Code) (lines : List (List ℕ)) : Type 0 where
  pub segments : List (List ℕ)
  pub listed : SegmentsText 0 code.segments segments
  pub are : lines ≡ segments ++ format_lines code.formats

-- the lines of segments are added to others
pub record AddsSegments (number : ℕ) (segments : List Segment) (old new : List (List ℕ)) : Type 0 where
  pub lines : List (List ℕ)
  pub listed : SegmentsText number segments lines
  pub added : new ≡ old ++ lines

-- the line of the operator at this place and level is added to others, and next is the place after it
pub record AddsOperator (bytes : List ℕ) (at level : ℕ) (old new : List (List ℕ)) (next : ℕ) : Type 0 where
  pub operator : Operator
  pub stands : OperatorStands bytes at level operator next
  pub added : new ≡ old ++ operator_line record { place = at; level = level; operator = operator } ∷ []

-- the lines of a segment are added to others
pub record AddsSegment (number : ℕ) (segment : Segment) (old new : List (List ℕ)) : Type 0 where
  pub operators : List ListedOperator
  pub segment_is : IsSegment segment operators
  pub added : new ≡ old ++ segment_lines number segment operators

-- the level at a place, and how many marks have been passed there, where these are left and so many were passed before
abbrev pub passed_mark : List Mark → ℕ → ℕ → ℕ → ℕ × ℕ
passed_mark [] passed at level = (level, passed)
passed_mark (mark ∷ marks) passed at level = if mark.place == at then (mark.level, passed + 1) else (level, passed)
