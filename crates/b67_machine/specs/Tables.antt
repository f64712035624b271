-- The operators of segments, decoded once for each level.
use Rattle.std.specs.Prelude.{◌≡◌, ℕ, List, [], Option, Some, None, slice_get}
use Rattle.b67_ops.specs.declared.Operator.{Operator}
use Rattle.b67_segment.specs.declared.code.Code.{Code}
use Rattle.b67_segment.specs.Decoded.{AreDecoded}
use Rattle.b67_machine.specs.declared.tables.Levels.{Levels}

-- the operators of a segment at a level, by place
abbrev pub Operators : Type 0
Operators = List (Option (Operator × ℕ))

abbrev pub tables_joined : Option (Option Operators) → Option Operators
tables_joined None = None
tables_joined (Some table) = table

-- the table of a level, where there is one
abbrev pub table_at_level : List (Option Operators) → ℕ → Option Operators
table_at_level levels level = tables_joined (slice_get levels level)

-- each table that stands at a level is the segment's at that level
abbrev pub AreLevels : Code → ℕ → List (Option Operators) → Type 0
AreLevels code segment levels = (level : ℕ) (table : Operators) → table_at_level levels level ≡ Some table → AreDecoded code segment level table

abbrev pub levels_in : Option Levels → List (Option Operators)
levels_in None = []
levels_in (Some levels) = levels.tables.items

-- so it is with each segment
abbrev pub AreTables : Code → List Levels → Type 0
AreTables code segments = (segment : ℕ) → AreLevels code segment (levels_in (slice_get segments segment))
