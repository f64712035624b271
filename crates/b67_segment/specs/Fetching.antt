-- Which operator stands at a pointer into code.
use Rattle.std.specs.Prelude.{◌≡◌, ℕ, ◌*◌, ◌≤◌, Option, Some, None, Result, Err, MatchOption, length, slice_get}
use Rattle.b67_ops.specs.declared.Operator.{Operator}
use Rattle.b67_ops.specs.declared.BadCode.{BadCode}
use Rattle.b67_ops.specs.declared.BadCode.TheVariants.{CutShort}
use Rattle.b67_ops.specs.Spelling.{OperatorStands}
use Rattle.b67_ops.specs.Decoding.{decoded}
use Rattle.b67_ops.specs.Refusals.{IsCutShort, NamesLevelAbove, IsUnknown}
use Rattle.b67_segment.specs.declared.code.Segment.{Segment}
use Rattle.b67_segment.specs.declared.code.Code.{Code}
use Rattle.b67_segment.specs.declared.code.Pointer.{Pointer}
use Rattle.b67_segment.specs.Syllables.{syllables}

-- what is decoded at a place of a segment, if it is there
abbrev pub fetched_from : Option Segment → ℕ → ℕ → Result (Operator × ℕ) BadCode
fetched_from None place level = Err CutShort
fetched_from (Some segment) place level = decoded (syllables segment.words) place level

-- the operator at a pointer and the place after it, where the current level is this one, or why there is none
abbrev pub fetched : Code → Pointer → ℕ → Result (Operator × ℕ) BadCode
fetched code at level = fetched_from (slice_get code.segments at.segment) at.place level

-- at this pointer, where the current level is this one, stands this operator, and next is the place after it
pub record StandsIn (code : Code) (at : Pointer) (level : ℕ) (op : Operator) (next : ℕ) : Type 0 where
  pub segment : Segment
  pub there : slice_get code.segments at.segment ≡ Some segment
  pub stands : OperatorStands (syllables segment.words) at.place level op next

-- the pointer's segment is not there, or ends before its place
abbrev pub IsPast : Code → Pointer → Type 0
IsPast code at = MatchOption (slice_get code.segments at.segment) (Unit {0}) (λ segment. 6 * length segment.words ≤ at.place)

-- the pointer's segment is not there, or ends before the operator at its place does
abbrev pub IsCutShortIn : Code → Pointer → ℕ → Type 0
IsCutShortIn code at level =
    MatchOption (slice_get code.segments at.segment) (Unit {0}) (λ segment. IsCutShort (syllables segment.words) at.place level)

-- the pointer's segment is there, and an operator at its place names a level above the current one
abbrev pub NamesLevelAboveIn : Code → Pointer → ℕ → Type 0
NamesLevelAboveIn code at level =
    MatchOption (slice_get code.segments at.segment) ⊥ (λ segment. NamesLevelAbove (syllables segment.words) at.place level)

-- the pointer's segment is there, and no operator is spelled at its place, however the code might go on
abbrev pub IsUnknownIn : Code → Pointer → ℕ → Type 0
IsUnknownIn code at level =
    MatchOption (slice_get code.segments at.segment) ⊥ (λ segment. IsUnknown (syllables segment.words) at.place level)
