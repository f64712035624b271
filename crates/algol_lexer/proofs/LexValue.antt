-- The value of a run of digits.
use Rattle.std.proofs.Common.{◌≡◌, ℕ, ◌+◌, ◌-◌, ◌*◌, ◌^◌, ◌<◌, ◌≤◌, List, length, drop, get_or, pos, to_z, w64, ap, arith}
use Rattle.std.proofs.lemmas.Int.{to_z_pos}
use Rattle.std.proofs.lemmas.List.{drop_more}
use Rattle.b67_num.specs.Whole.{most}
use Rattle.algol_tree.specs.Spelling.{value_after}

-- one digit more
pub value_after_drop : (value : ℕ) (ds : List ℕ) (i : ℕ) → i < length ds → value_after value (drop i ds) ≡ value_after (value * 10 + (get_or ds i 0 - 48)) (drop (i + 1) ds)
value_after_drop value ds i lt = ap (value_after value) (drop_more ds i 0 lt)

-- a value within the limit is the same whole number
pub whole_value : (value : ℕ) → value ≤ most → to_z w64 value ≡ pos value
whole_value value small = let below : value < 2 ^ 63 = omega arith in to_z_pos w64 value below
