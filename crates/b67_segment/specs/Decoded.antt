-- The operators of a segment, decoded once at each of its places.
use Rattle.std.specs.Prelude.{◌≡◌, ℕ, List, Option, Some, None, Result, Ok, Err, slice_get}
use Rattle.b67_ops.specs.declared.Operator.{Operator}
use Rattle.b67_ops.specs.declared.BadCode.{BadCode}
use Rattle.b67_segment.specs.declared.code.Code.{Code}
use Rattle.b67_segment.specs.Fetching.{fetched}

abbrev pub if_good : Result (Operator × ℕ) BadCode → Option (Operator × ℕ)
if_good (Ok operator) = Some operator
if_good (Err bad) = None

-- the operator that is fetched at a place of a segment at a level, and the place after it
abbrev pub found : Code → ℕ → ℕ → ℕ → Option (Operator × ℕ)
found code segment level place = if_good (fetched code (record { segment = segment; place = place }) level)

abbrev pub flat_operator : Option (Option (Operator × ℕ)) → Option (Operator × ℕ)
flat_operator None = None
flat_operator (Some operator) = operator

-- the operator that a list has at a place, none past its end
abbrev pub at_place : List (Option (Operator × ℕ)) → ℕ → Option (Operator × ℕ)
at_place places place = flat_operator (slice_get places place)

-- at every place of the segment the list has what is fetched there at this level
abbrev pub AreDecoded : Code → ℕ → ℕ → List (Option (Operator × ℕ)) → Type 0
AreDecoded code segment level places = (place : ℕ) → at_place places place ≡ found code segment level place
