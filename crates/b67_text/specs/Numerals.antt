-- Numbers in a text: decimal, without leading zeros, and ended by a byte that is no digit.
use Rattle.std.specs.Prelude.{◌≡◌, ◌≢◌, ℕ, ◌+◌, ◌*◌, ◌^◌, ◌<◌, ◌≤◌, nat_lt, ◌&&◌, if◌then◌else◌, ◌⊎◌, Option, None, Some, List, [], ◌∷◌, ◌++◌, drop}
use Rattle.std.specs.Fmt.{decimal}
use Rattle.b67_text.specs.Texts.{PartStands}
use Rattle.b67_text.specs.declared.number.Numbers.{Numbers}

abbrev pub IsDigit : ℕ → Type 0
IsDigit byte = (48 ≤ byte) × (byte ≤ 57)

-- the number is one of these, of 64 bits
pub record NumberIsIn (numbers : Numbers) (n : ℕ) : Type 0 where
  pub fits : n < 2 ^ 64
  pub least : numbers.least ≤ n
  pub most : n ≤ numbers.most
  pub other : numbers.except ≢ Some n

-- a number of these and the byte that ends it
pub record IsField (numbers : Numbers) (end : ℕ) (text : List ℕ) : Type 0 where
  pub number : ℕ
  pub is_in : NumberIsIn numbers number
  pub text_is : text ≡ decimal number ++ end ∷ []

-- the digits of a number, or none
abbrev pub spelled : Option ℕ → List ℕ
spelled None = []
spelled (Some n) = decimal n

-- a number of 64 bits, or none
abbrev pub IsSmallNumber : Option ℕ → Type 0
IsSmallNumber None = Unit {0}
IsSmallNumber (Some n) = n < 2 ^ 64

-- a number of these begins with these digits
abbrev pub BeginsOne : Numbers → List ℕ → Type 0
BeginsOne numbers digits = (n : ℕ) × (more : List ℕ) × NumberIsIn numbers n × (decimal n ≡ digits ++ more)

-- one of these is this number with a 0 or a 1 after it
abbrev pub HasLonger : Numbers → ℕ → Type 0
HasLonger numbers n = NumberIsIn numbers (10 * n) ⊎ NumberIsIn numbers (10 * n + 1)

-- one of these is this number, or it is not 0 and one of these is it with another digit
abbrev pub CanBegin : Numbers → ℕ → Type 0
CanBegin numbers n = NumberIsIn numbers n ⊎ ((1 ≤ n) × HasLonger numbers n)

-- the number of these digits and one more
abbrev pub lengthened : Option ℕ → ℕ → Option ℕ
lengthened None digit = Some digit
lengthened (Some front) digit = if nat_lt 0 front && nat_lt (10 * front + digit) (2 ^ 64) then Some (10 * front + digit) else None

-- the digits of this number stand from a place on to the next, they begin one of these, and with the byte after them they begin none
pub record AreDigits (numbers : Numbers) (bytes : List ℕ) (at : ℕ) (number : Option ℕ) (next : ℕ) : Type 0 where
  pub small : IsSmallNumber number
  pub stand : PartStands (spelled number) bytes at next
  pub begin : BeginsOne numbers (spelled number)
  pub longest : (byte : ℕ) (rest : List ℕ) → drop next bytes ≡ byte ∷ rest → BeginsOne numbers (spelled number ++ byte ∷ []) → ⊥
