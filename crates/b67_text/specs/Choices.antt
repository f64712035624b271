-- Readings of several kinds at one place.
use Rattle.std.specs.Prelude.{ℕ, max, Result, Ok, Err}
use Rattle.b67_text.specs.declared.BadText.{BadText}

-- the first reading that succeeds, or the refusal that reaches farther
abbrev pub either : {T : Type 0} → Result (T × ℕ) BadText → Result (T × ℕ) BadText → Result (T × ℕ) BadText
either (Ok found) second = Ok found
either (Err bad) (Ok found) = Ok found
either (Err bad) (Err other) = Err record { byte = max bad.byte other.byte }
