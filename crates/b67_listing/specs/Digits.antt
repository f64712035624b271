-- Numbers of a fixed width.
use Rattle.std.specs.Prelude.{ℕ, zero, suc, ◌/◌, ◌%◌, true, List, [], ◌∷◌, ◌++◌}
use Rattle.std.specs.List.{flat_map}
use Rattle.std.specs.Fmt.{digit_glyph}

-- the last digits of a number in a base, so many, letters as capitals
abbrev pub last_digits : ℕ → ℕ → ℕ → List ℕ
last_digits base zero number = []
last_digits base (suc count) number = last_digits base count (number / base) ++ digit_glyph true (number % base) ∷ []

-- syllables, of two digits each
abbrev pub hexadecimal : List ℕ → List ℕ
hexadecimal syllables = flat_map (last_digits 16 2) syllables
