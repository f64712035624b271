-- The rows of a segment's operators, made ready at its places.
use Rattle.std.specs.Prelude.{◌≡◌, ℕ, List, Option, Some, None, IfSome, slice_get}
use Rattle.b67_ops.specs.declared.Operator.{Operator}
use Rattle.b67_ops.specs.Spelling.{FitsAs}
use Rattle.b67_segment.specs.Decoded.{at_place}
use Rattle.b67_private.specs.declared.flat.FlatRow.{FlatRow}
use Rattle.b67_private.specs.declared.operators.Row.{Row}
use Rattle.b67_private.specs.Actions.{IsRow, IsHeldRow}
use Rattle.b67_private.specs.Operating.{PrivateHasRow, IsHeldCouple}
use Rattle.b67_private.specs.Lettered.{HasLetter}
use Rattle.b67_private.specs.Flat.{row_from}

-- by place, an operator with the place after it, and none where no operator stands
abbrev pub Operators : Type 0
Operators = List (Option (Operator × ℕ))

-- what a reference can hold is all that these operators name
abbrev pub AreHeld : Operators → Type 0
AreHeld operators = (place : ℕ) → IfSome (at_place operators place) (λ f. FitsAs IsHeldCouple f.0)

-- by place, what an operator does, with the place after it, where it is made ready
abbrev pub Rows : Type 0
Rows = List (Option (FlatRow × ℕ))

abbrev pub inner_row : Option (Option (FlatRow × ℕ)) → Option (FlatRow × ℕ)
inner_row None = None
inner_row (Some row) = row

-- the row that a list has at a place, none past its end
abbrev pub row_at : Rows → ℕ → Option (FlatRow × ℕ)
row_at rows place = inner_row (slice_get rows place)

-- what stands at a place is an operator with this row, and with its letter
abbrev pub IsRowOf : ℕ → Option (Operator × ℕ) → Row × ℕ → Type 0
IsRowOf place None r = ⊥
IsRowOf place (Some f) r = PrivateHasRow f.0 place r.0 × (r.1 ≡ f.1) × IsRow f.0 place r.0 × IsHeldRow r.0 × HasLetter f.0 place r.0

-- the same of a flat row
abbrev pub IsFlatRowOf : ℕ → Option (Operator × ℕ) → FlatRow × ℕ → Type 0
IsFlatRowOf place found r = IsRowOf place found (row_from r.0, r.1)

-- each row that is made ready is that of the operator at its place
abbrev pub AreRows : Operators → Rows → Type 0
AreRows operators rows = (place : ℕ) → IfSome (row_at rows place) (λ r. IsFlatRowOf place (at_place operators place) r)
