-- What the parts of the assembler do with one line, whatever lines come after it.
use Rattle.std.specs.Prelude.{◌≡◌, ℕ, ◌+◌, ◌≤◌, List, [], ◌∷◌, ◌++◌, length, drop, if◌then◌else◌, true, Option, Some, None}
use Rattle.std.specs.Option.{option_or}
use Rattle.std.specs.Borrow.{Bor}
use Rattle.std.specs.Map.{update}
use Rattle.std.specs.Str.{bytes_eq}
use Rattle.std.specs.BTreeMap.{BTreeMap}
use Rattle.b67_segment.specs.declared.TheConstants.{MOST_SEGMENT_SYLLABLES}
use Rattle.b67_segment.specs.declared.code.Segment.{Segment as Made}
use Rattle.b67_segment.specs.Operators.{Placed, size, filled}
use Rattle.b67_segment.specs.Building.{Built}
use Rattle.b67_segment.specs.Syllables.{Spells}
use Rattle.b67_asm_text.specs.declared.item.Reading.{Reading}
use Rattle.b67_asm_text.specs.declared.item.Reading.TheVariants.{Segment, Level}
use Rattle.b67_ops.specs.declared.TheConstants.{OUTER_LEVEL, MOST_LEVEL}
use Rattle.b67_asm.specs.declared.label.Standing.{Standing}
use Rattle.b67_asm.specs.Labels.{found_in, labels_from, label_named}
use Rattle.b67_asm.specs.declared.refusal.NotAssembled.{NotAssembled}
use Rattle.b67_asm.specs.Rules.{Inside, first_before, first_broken, first_in, is_segment, nowhere}
use Rattle.b67_asm.specs.Assembling.{AreCode, IsFirst, operators_from, segments_from}

abbrev pub LabelTable : Type 0
LabelTable = BTreeMap (Bor (List ℕ)) Standing

-- the second table has this label for the name, and for each other name what the first has
abbrev pub LabelPuts : LabelTable → LabelTable → List ℕ → Standing → Type 0
LabelPuts old new name standing = (other : List ℕ) → found_in new other ≡ update bytes_eq (found_in old) name (Some standing) other

-- the second table has this label too, where the first has none of its name
abbrev pub LabelAdds : LabelTable → LabelTable → List ℕ → Standing → Type 0
LabelAdds old new name standing = (other : List ℕ) → found_in new other ≡ option_or (found_in old other) (if bytes_eq name other then Some standing else None)

-- a table has a name's first label in a line and those after it, where an older table has it in the lines before
abbrev pub Gathers : LabelTable → LabelTable → ℕ → ℕ → Reading → ℕ → Type 0
Gathers old new line at reading next =
    (rest : List Reading) (name : List ℕ) →
    option_or (found_in new name) (label_named (labels_from (line + 1) next rest) name)
    ≡ option_or (found_in old name) (label_named (labels_from line at (reading ∷ rest)) name)

-- a level is one of a block, as the level of a line is
abbrev pub IsBlockLevel : ℕ → Type 0
IsBlockLevel level = (OUTER_LEVEL ≤ level) × (level ≤ MOST_LEVEL)

abbrev pub HasBlockLevel : Reading → Type 0
HasBlockLevel (Level level) = IsBlockLevel level
HasBlockLevel reading = Unit {0}

-- the levels that lines have are those of blocks
abbrev pub HaveBlockLevels : List Reading → Type 0
HaveBlockLevels [] = Unit {0}
HaveBlockLevels (reading ∷ rest) = HasBlockLevel reading × HaveBlockLevels rest

-- where the next line stands in a segment that has these labels, this level and these operators
abbrev pub inside_of : (List ℕ → Option Standing) → ℕ → List Placed → Inside
inside_of labels level operators = record { labels = labels; level = level; place = size operators }

-- a line of a segment was taken, with what it adds to the operators, and the level after it
abbrev pub LineTakes : (List ℕ → Option Standing) → ℕ → List Placed → ℕ → Reading → List Placed → ℕ → Type 0
LineTakes labels level old line reading new next =
    (rest : List Reading) →
    (first_in (inside_of labels level old) line (reading ∷ rest) ≡ first_in (inside_of labels next new) (line + 1) rest)
    × (old ++ operators_from labels level (reading ∷ rest) ≡ new ++ operators_from labels next rest)

pub record HasTaken (labels : List ℕ → Option Standing) (level : ℕ) (old new : Built) (line : ℕ) (reading : Reading) (next : ℕ) : Type 0 where
  pub level_is : new.level ≡ Some next
  pub block : IsBlockLevel next
  pub room : size new.operators ≤ MOST_SEGMENT_SYLLABLES
  pub takes : LineTakes labels level old.operators line reading new.operators next

-- a refusal of this line of a segment, whatever lines come after it, or want of memory
abbrev pub RefusesLine : NotAssembled → (List ℕ → Option Standing) → ℕ → List Placed → ℕ → Reading → Type 0
RefusesLine e labels level old line reading = (rest : List Reading) → IsFirst e (first_in (inside_of labels level old) line (reading ∷ rest))

-- no line is left, or the first is SEGMENT
abbrev pub AtSegment : List Reading → Type 0
AtSegment [] = Unit {0}
AtSegment (reading ∷ rest) = is_segment reading ≡ true

-- the lines from here to the next SEGMENT were taken, of a segment that has these labels
pub record HasTakenLines (labels : List ℕ → Option Standing) (lines : List Reading) (from : ℕ) (new : Built) (next : ℕ) : Type 0 where
  pub later : from ≤ next
  pub within : next ≤ length lines
  pub stops : AtSegment (drop next lines)
  pub same : first_in (inside_of labels OUTER_LEVEL []) (from + 1) (drop from lines) ≡ first_in nowhere (next + 1) (drop next lines)
  pub operators : operators_from labels OUTER_LEVEL (drop from lines) ≡ new.operators
  pub segments : segments_from (from + 1) (drop from lines) ≡ segments_from (next + 1) (drop next lines)

-- the segment of the lines from here to the next SEGMENT was read, of which the SEGMENT has this number
pub record HasRead (lines : List Reading) (from : ℕ) (segment : Made) (next : ℕ) : Type 0 where
  pub later : from ≤ next
  pub within : next ≤ length lines
  pub stops : AtSegment (drop next lines)
  pub same : first_in nowhere from (Segment ∷ drop from lines) ≡ first_in nowhere (next + 1) (drop next lines)
  pub operators : List Placed
  pub are : segments_from from (Segment ∷ drop from lines) ≡ operators ∷ segments_from (next + 1) (drop next lines)
  pub spelled : Spells (filled operators) segment

-- the lines before the first SEGMENT break no rule, and it stands here
pub record HasPassed (lines : List Reading) (at : ℕ) : Type 0 where
  pub within : at ≤ length lines
  pub stops : AtSegment (drop at lines)
  pub same : first_before 1 lines ≡ first_in nowhere (at + 1) (drop at lines)
  pub segments : segments_from 1 lines ≡ segments_from (at + 1) (drop at lines)

-- the segments of lines
pub record HasAll (lines : List Reading) (segments : List Made) : Type 0 where
  pub whole : first_broken lines ≡ None
  pub are : AreCode (segments_from 1 lines) segments

-- the segments of the lines from here on, where a segment begins or no line is left
pub record HasRest (lines : List Reading) (at : ℕ) (segments : List Made) : Type 0 where
  pub whole : first_in nowhere (at + 1) (drop at lines) ≡ None
  pub are : AreCode (segments_from (at + 1) (drop at lines)) segments
