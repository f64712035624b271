-- What reads take from the bytes that a source has left, where it tells them.
use Rattle.std.specs.Prelude.{◌≡◌, ℕ, ◌<◌, ◌≤◌, ◌↔◌, List, [], length, Option, Some, None, ⊤}
use Rattle.std.specs.Io.KnownBytes.{Consumes}

-- a read into a piece with room gives no byte exactly where none was left
abbrev pub EndsExactly : Option (List ℕ) → List ℕ → ℕ → Type 0
EndsExactly None piece count = ⊤
EndsExactly (Some left) piece count = 0 < length piece → ((count ≡ 0) ↔ (left ≡ []))

-- some bytes, more than the first number and at most the second, are gone from the front of what was left
pub record TakesBetween (above most : ℕ) (old new : Option (List ℕ)) : Type 0 where
  pub bytes : List ℕ
  pub more : above < length bytes
  pub no_more : length bytes ≤ most
  pub front : Consumes old new bytes

-- some bytes are gone from the front of what was left
pub record TakesFront (old new : Option (List ℕ)) : Type 0 where
  pub bytes : List ℕ
  pub front : Consumes old new bytes
