-- The rules of a text: the lowest that a line breaks, and the first line that breaks one.
use Rattle.std.specs.Prelude.{ℕ, ◌+◌, ◌^◌, ◌==◌, ◌&&◌, nat_le, nat_lt, if◌then◌else◌, Bool, true, false, List, [], ◌∷◌, Option, Some, None, Result, Ok, Err, unwrap_or}
use Rattle.b67_ops.specs.declared.TheConstants.{OUTER_LEVEL}
use Rattle.b67_ops.specs.declared.BranchKind.{BranchKind}
use Rattle.b67_ops.specs.declared.Couple.{Couple}
use Rattle.b67_ops.specs.declared.Operator.{Operator as Op}
use Rattle.b67_ops.specs.declared.Operator.TheVariants as ops
use Rattle.b67_ops.specs.Spelling.{index_bits}
use Rattle.b67_segment.specs.declared.TheConstants.{MOST_SEGMENT_SYLLABLES}
use Rattle.b67_asm_text.specs.declared.item.Written.{Written}
use Rattle.b67_asm_text.specs.declared.item.Written.TheVariants.{Whole, ToLabel, TooGreat}
use Rattle.b67_asm_text.specs.declared.item.Reading.{Reading}
use Rattle.b67_asm_text.specs.declared.item.Reading.TheVariants.{Blank, NoItem, Segment, Level, Label, Operator, Format}
use Rattle.b67_asm.specs.declared.label.Standing.{Standing}
use Rattle.b67_asm.specs.declared.refusal.Rule.{Rule}
use Rattle.b67_asm.specs.declared.refusal.Rule.TheVariants.{BadLine, UnknownLabel, DoubleLabel, Range, SegmentTooLong, NoSegment, EmptySegment}
use Rattle.b67_asm.specs.declared.refusal.Refusal.{Refusal}
use Rattle.b67_asm.specs.Labels.{labels_from, label_named, place_after}

-- where a line stands in its segment: the labels of the segment, by name; the level; and the place of the next syllable
pub record Inside : Type 0 where
  pub labels : List ℕ → Option Standing
  pub level : ℕ
  pub place : ℕ

-- a couple that can stand in a block of this level
abbrev pub is_seen : ℕ → Couple → Bool
is_seen level couple = nat_le couple.level level && nat_lt couple.index (2 ^ index_bits level)

-- an operator that can stand in a block of this level
abbrev pub fits : ℕ → Op → Bool
fits level (ops.Valc couple) = is_seen level couple
fits level (ops.Namc couple) = is_seen level couple
fits level (ops.Lt8 number) = nat_lt number (2 ^ 8)
fits level (ops.Lt16 number) = nat_lt number (2 ^ 16)
fits level (ops.Lt48 word) = nat_lt word (2 ^ 48)
fits level (ops.Mpcw word) = nat_lt word (2 ^ 48)
fits level (ops.Branch kind place) = nat_lt place (2 ^ 16)
fits level (ops.Plain kind) = true

abbrev pub if_fits : ℕ → Op → Result Op Rule
if_fits level operator = if fits level operator then Ok operator else Err Range

abbrev pub branch_to : ℕ → BranchKind → Option Standing → Result Op Rule
branch_to level kind None = Err UnknownLabel
branch_to level kind (Some standing) = if_fits level (ops.Branch kind standing.place)

-- the operator that is written, where it can stand at this level; a branch to a label goes to the label's place
abbrev pub resolved : (List ℕ → Option Standing) → ℕ → Written → Result Op Rule
resolved labels level (Whole operator) = if_fits level operator
resolved labels level (ToLabel kind name) = branch_to level kind (labels name)
resolved labels level (TooGreat kind) = Err Range

-- the lowest rule that an operator breaks, where it ends at this place
abbrev pub operator_broken : ℕ → Result Op Rule → Option Rule
operator_broken end (Ok operator) = if nat_lt MOST_SEGMENT_SYLLABLES end then Some SegmentTooLong else None
operator_broken end (Err rule) = Some rule

-- the lowest rule that a label breaks: the first one of its name is on another line
abbrev pub label_broken : ℕ → Option Standing → Option Rule
label_broken line None = None
label_broken line (Some standing) = if standing.line == line then None else Some DoubleLabel

-- the lowest rule that a line of a segment breaks, after its SEGMENT
abbrev pub broken_in : Inside → ℕ → Reading → Option Rule
broken_in inside line NoItem = Some BadLine
broken_in inside line (Label name) = label_broken line (inside.labels name)
broken_in inside line (Operator written) = operator_broken (place_after inside.place written) (resolved inside.labels inside.level written)
broken_in inside line (Format fits) = if fits then None else Some Range
broken_in inside line reading = None

-- the lowest rule that a line breaks before the first SEGMENT
abbrev pub broken_before : Reading → Option Rule
broken_before Blank = None
broken_before Segment = None
broken_before NoItem = Some BadLine
broken_before (Operator (TooGreat kind)) = Some Range
broken_before (Format fits) = if fits then None else Some Range
broken_before reading = Some NoSegment

-- where the line after this one stands
abbrev pub line_moved : Inside → Reading → Inside
line_moved inside (Level level) = record { labels = inside.labels; level = level; place = inside.place }
line_moved inside (Operator written) = record { labels = inside.labels; level = inside.level; place = place_after inside.place written }
line_moved inside reading = inside

abbrev pub is_segment : Reading → Bool
is_segment Segment = true
is_segment reading = false

-- an operator; or a line that is no item, which may have been meant as one
abbrev pub is_meant : Reading → Bool
is_meant (Operator written) = true
is_meant NoItem = true
is_meant reading = false

-- up to the next SEGMENT there is no operator
abbrev pub is_empty : List Reading → Bool
is_empty [] = true
is_empty (reading ∷ rest) = if is_segment reading then true else (if is_meant reading then false else is_empty rest)

-- the begin of a segment that has these lines, the first of which has this number
abbrev pub segment_begun : ℕ → List Reading → Inside
segment_begun line rest = record { labels = label_named (labels_from line 0 rest); level = OUTER_LEVEL; place = 0 }

-- a rule that is broken on a line, or what comes after
abbrev pub or_next : ℕ → Option Rule → Option Refusal → Option Refusal
or_next line None next = next
or_next line (Some rule) next = Some record { line = line; rule = rule }

-- the first of these lines that breaks a rule, from inside a segment on
abbrev pub first_in : Inside → ℕ → List Reading → Option Refusal
first_in inside line [] = None
first_in inside line (Segment ∷ rest) =
    if is_empty rest then Some record { line = line; rule = EmptySegment } else first_in (segment_begun (line + 1) rest) (line + 1) rest
first_in inside line (reading ∷ rest) = or_next line (broken_in inside line reading) (first_in (line_moved inside reading) (line + 1) rest)

-- where no segment has begun, so that nothing is looked for
abbrev pub nowhere : Inside
nowhere = record { labels = λ name. None; level = OUTER_LEVEL; place = 0 }

-- the same from before the first SEGMENT on
abbrev pub first_before : ℕ → List Reading → Option Refusal
first_before line [] = None
first_before line (Segment ∷ rest) = first_in nowhere line (Segment ∷ rest)
first_before line (reading ∷ rest) = or_next line (broken_before reading) (first_before (line + 1) rest)

abbrev pub has_segment : List Reading → Bool
has_segment [] = false
has_segment (reading ∷ rest) = if is_segment reading then true else has_segment rest

-- line 1 of a text without a SEGMENT
abbrev pub first_line : List Reading → Refusal
first_line [] = record { line = 1; rule = NoSegment }
first_line (reading ∷ rest) = record { line = 1; rule = unwrap_or (broken_before reading) NoSegment }

-- the first line of a text that breaks a rule, and the lowest rule that it breaks
abbrev pub first_broken : List Reading → Option Refusal
first_broken lines = if has_segment lines then first_before 1 lines else Some (first_line lines)
