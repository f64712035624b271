-- The machine's word: a tag of 3 bits and 48 bits, numbered from 47 down to 0. An operand is a word of tag 0
-- with a sign and a magnitude; a truth value is a word of tag 0 whose bit 0 says it.
use Rattle.std.specs.Prelude.{ℕ, ◌+◌, ◌-◌, ◌*◌, ◌/◌, ◌%◌, ◌^◌, ◌<◌, ◌==◌, ◌&&◌, Bool, ℤ, pos, negsuc, neg_ℤ, unsigned_abs, Option, Some, None, if◌then◌else◌}

-- what contracts see of a word
pub record Word : Type 0 where
  pub tag : ℕ
  pub bits : ℕ

-- the tag has 3 bits, and the rest 48
pub record IsWord (w : Word) : Type 0 where
  pub tag : w.tag < 2 ^ 3
  pub bits : w.bits < 2 ^ 48

-- the word with this tag and these bits
abbrev pub word : ℕ → ℕ → Word
word tag bits = record { tag = tag; bits = bits }

-- the n bits from bit s downwards, as a number
unfoldable pub field : ℕ → ℕ → ℕ → ℕ
field s n bits = bits / 2 ^ (s + 1 - n) % 2 ^ n

-- the bits above bit s, then the value in n bits, then the bits below those
unfoldable pub set_field : ℕ → ℕ → ℕ → ℕ → ℕ
set_field s n value bits = (bits / 2 ^ (s + 1) * 2 ^ n + value) * 2 ^ (s + 1 - n) + bits % 2 ^ (s + 1 - n)

-- the greatest magnitude that a mantissa of 39 bits has
abbrev pub most_mantissa : ℕ
most_mantissa = 2 ^ 39 - 1

-- 1 where the number is negative
abbrev pub sign_bit_of : ℤ → ℕ
sign_bit_of (pos n) = 0
sign_bit_of (negsuc n) = 1

-- the number with this sign bit and magnitude; minus zero is 0
abbrev pub signed : ℕ → ℕ → ℤ
signed sign magnitude = if sign == 0 then pos magnitude else neg_ℤ (pos magnitude)

-- the operand that holds a number: its sign is bit 46, its magnitude stands in bits 38 to 0
unfoldable pub operand : ℤ → Word
operand z = word 0 (sign_bit_of z * 2 ^ 46 + unsigned_abs z)

-- whether a word is read as a whole number: tag 0, and no bit 47, no exponent's sign and no exponent
unfoldable pub is_whole : Word → Bool
is_whole w = w.tag == 0 && field 47 1 w.bits == 0 && field 45 1 w.bits == 0 && field 44 6 w.bits == 0

-- the whole number that a word is read as
unfoldable pub as_whole : Word → Option ℤ
as_whole w = if is_whole w then Some (signed (field 46 1 w.bits) (field 38 39 w.bits)) else None

-- the word that holds a truth value
unfoldable pub truth : Bool → Word
truth b = word 0 (if b then 1 else 0)

-- the truth value that a word of tag 0 is read as: its bit 0
unfoldable pub as_truth : Word → Option Bool
as_truth w = if w.tag == 0 then Some (field 0 1 w.bits == 1) else None
