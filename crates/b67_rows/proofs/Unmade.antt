-- What a part has still to make stays so over each action but that which makes it.
use Rattle.std.proofs.Common.{◌≡◌, refl, Bool, true, false}
use Rattle.b67_rows.proofs.Prelude.{Ask, makes_arrays, makes_event, ask, Rest, arrays, event, all_to_make, all_left_to_make}

abbrev pub makes : Ask → Bool
makes (makes_arrays kind ns pairs vs) = true
makes (makes_event n) = true
makes _ = false

pub unmade : (r : Rest) → makes (ask r) ≡ false → all_left_to_make r ≡ all_to_make r
unmade (arrays kind ns pairs vs k) e = cc
unmade (event n k) e = cc
unmade r e = refl
