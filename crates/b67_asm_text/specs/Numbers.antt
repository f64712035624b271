-- The numbers and words of operands, as they are written.
use Rattle.std.specs.Prelude.{ℕ, ◌+◌, ◌-◌, ◌*◌, ◌==◌, ◌||◌, nat_lt, min, if◌then◌else◌, Bool, false, List, [], ◌∷◌, length, Option, Some, None}
use Rattle.algol_tree.specs.Spelling.{is_digit}
use Rattle.b67_asm_text.specs.declared.number.TheConstants.{TOO_GREAT, GREATEST_WORD, WORD_DIGITS}

-- the number of decimal digits after others that are worth so much; one that is greater counts as that which no operand is as great as
abbrev pub number_after : ℕ → List ℕ → Option ℕ
number_after number [] = Some number
number_after number (digit ∷ digits) = if is_digit digit then number_after (min TOO_GREAT (10 * number + (digit - 48))) digits else None

-- a zero stands before other digits
abbrev pub has_leading_zero : List ℕ → Bool
has_leading_zero [] = false
has_leading_zero (first ∷ []) = false
has_leading_zero (first ∷ second ∷ rest) = first == 48

-- a number: decimal digits, without a leading zero
abbrev pub number_in : List ℕ → Option ℕ
number_in word = if (length word == 0) || has_leading_zero word then None else number_after 0 word

-- the value of a hexadecimal digit, letters as capitals
abbrev pub digit_value : ℕ → Option ℕ
digit_value byte =
    if nat_lt byte 48 then None
    else (if nat_lt byte 58 then Some (byte - 48) else (if nat_lt byte 65 then None else (if nat_lt byte 71 then Some (byte - 55) else None)))

abbrev pub with_digit : ℕ → Option ℕ → (ℕ → Option ℕ) → Option ℕ
with_digit word None rest = None
with_digit word (Some value) rest = rest (min GREATEST_WORD (16 * word + value))

-- the word of hexadecimal digits after others
abbrev pub word_after : ℕ → List ℕ → Option ℕ
word_after word [] = Some word
word_after word (digit ∷ digits) = with_digit word (digit_value digit) (λ (next : ℕ). word_after next digits)

-- a word: 12 hexadecimal digits
abbrev pub word_in : List ℕ → Option ℕ
word_in digits = if length digits == WORD_DIGITS then word_after 0 digits else None
