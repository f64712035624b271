-- What holds of words whatever the program does with them.
use Rattle.std.specs.Prelude.{◌≡◌, ℕ, ◌+◌, ◌-◌, ◌/◌, ◌%◌, ◌^◌, ◌<◌, ◌≤◌, ◌↔◌, Bool, ℤ, pos, unsigned_abs, Some, IsSome}
use Rattle.b67_word.specs.Word.{Word, word, IsWord, field, set_field, most_mantissa, operand, as_whole, truth, as_truth}

-- a word that is read as a whole number: tag 0, and no bit 47, no exponent's sign and no exponent
pub record IsOperand (w : Word) : Type 0 where
  pub tag : w.tag ≡ 0
  pub no_top : field 47 1 w.bits ≡ 0
  pub no_exponent_sign : field 45 1 w.bits ≡ 0
  pub no_exponent : field 44 6 w.bits ≡ 0

pub record OperandsAreReadBack : Type 0 where
  -- a whole number is read back from its operand, which is a word of tag 0
  pub whole_back : (z : ℤ) → unsigned_abs z ≤ most_mantissa → as_whole (operand z) ≡ Some z
  pub operand_word : (z : ℤ) → unsigned_abs z ≤ most_mantissa → IsWord (operand z)
  pub operand_tag : (z : ℤ) → (operand z).tag ≡ 0
  -- what is read is a whole number, and just the words without exponent are read
  pub small : (w : Word) (z : ℤ) → as_whole w ≡ Some z → unsigned_abs z ≤ most_mantissa
  pub read : (w : Word) → IsSome (as_whole w) ↔ IsOperand w
  -- minus zero is 0
  pub minus_zero : as_whole (word 0 (2 ^ 46)) ≡ Some (pos 0)
  -- a truth value is read back from its word, and just the words of tag 0 are read
  pub truth_back : (b : Bool) → as_truth (truth b) ≡ Some b
  pub truth_word : (b : Bool) → IsWord (truth b)
  pub truth_tag : (b : Bool) → (truth b).tag ≡ 0
  pub truth_read : (w : Word) → IsSome (as_truth w) ↔ (w.tag ≡ 0)

pub record OneFieldIsSet : Type 0 where
  -- the field has the value
  pub set : (s n value bits : ℕ) → n ≤ s + 1 → value < 2 ^ n → field s n (set_field s n value bits) ≡ value
  -- the bits above and below it are as they were
  pub above : (s n value bits : ℕ) → n ≤ s + 1 → value < 2 ^ n → set_field s n value bits / 2 ^ (s + 1) ≡ bits / 2 ^ (s + 1)
  pub below : (s n value bits : ℕ) → set_field s n value bits % 2 ^ (s + 1 - n) ≡ bits % 2 ^ (s + 1 - n)
