-- Numbers and words of operands, read back from their digits.
use Rattle.std.proofs.Common.{◌≡◌, ℕ, zero, suc, ◌+◌, ◌-◌, ◌*◌, ◌/◌, ◌%◌, ◌≤◌, ◌<◌, ◌^◌, ◌==◌, true, false, not, List, [], ◌∷◌, ◌++◌, length, get_or, Option, Some, None, refl, sym, ap, subst, arith, ◌∙◌, inl, inr, append_assoc, append-nil, length-append}
use Rattle.std.specs.Prelude.{◌||◌, min, nat_le, nat_lt, if◌then◌else◌}
use Rattle.std.specs.List.{list_all}
use Rattle.std.specs.Fmt.{decimal, digit_glyph}
use Rattle.std.proofs.lemmas.Fmt.{decimal_by_steps, decimal_digit, decimal_nonempty, first_decimal}
use Rattle.std.proofs.lemmas.Bool.{and_from, and_parts, cases_lt, cond-true, cond-false, eq-eqb, le-leb, le-ltb, leb-true, lt-ltb, ne_eqb, not_from_false, or_from}
use Rattle.std.proofs.lemmas.List.Folds.{list_all-append}
use Rattle.algol_tree.specs.Spelling.{is_digit}
use Rattle.b67_listing.specs.Digits.{last_digits}
use Rattle.b67_asm_text.specs.declared.number.TheConstants.{GREATEST_WORD, TOO_GREAT}
use Rattle.b67_asm_text.specs.Numbers.{digit_value, has_leading_zero, number_after, number_in, with_digit, word_after, word_in}
use Rattle.b67_asm_text.specs.Operands.{comma_place}
use Rattle.b67_asm.proofs.PhrasesBack.{digit_is}
use Rattle.b67_asm_writer.proofs.Quiet.{are_high, is_high}

-- ---- decimal digits

digit_step : (m d n : ℕ) (rest : List ℕ) → d < 10 → 10 * m + d ≡ n → n < 65536 → number_after m ((48 + d) ∷ rest) ≡ number_after n rest
digit_step m d n rest small sum fits =
    let value : min TOO_GREAT (10 * m + (48 + d - 48)) ≡ n = omega arith in
    cond-true (is_digit (48 + d)) (number_after (min TOO_GREAT (10 * m + (48 + d - 48))) rest) None (digit_is d small)
    ∙ ap (λ (k : ℕ). number_after k rest) value

-- digits that are read as this number, whatever digits come after them
Reads : ℕ → List ℕ → Type 0
Reads n ds = n < 65536 → (rest : List ℕ) → number_after 0 (ds ++ rest) ≡ number_after n rest

one_reads : (n : ℕ) → n < 10 → Reads n ((48 + n) ∷ [])
unfolding Reads
one_reads n small fits rest = digit_step 0 n n rest small (omega arith) fits

more_reads : (n : ℕ) (ds : List ℕ) → 10 ≤ n → Reads (n / 10) ds → Reads n (ds ++ (48 + n % 10) ∷ [])
unfolding Reads
more_reads n ds long h fits rest =
    ap (number_after 0) (append_assoc ds ((48 + n % 10) ∷ []) rest)
    ∙ h (omega (arith, fits)) ((48 + n % 10) ∷ rest)
    ∙ digit_step (n / 10) (n % 10) n rest (omega arith) (omega arith) fits

all_read : (n : ℕ) → n < 65536 → number_after 0 (decimal n) ≡ Some n
unfolding Reads
all_read n fits =
    ap (number_after 0) (sym (append-nil (decimal n))) ∙ decimal_by_steps Reads one_reads more_reads n (omega arith) fits []

-- no zero stands before other digits
zero_alone : (ds : List ℕ) → 48 < get_or ds 0 0 → has_leading_zero ds ≡ false
zero_alone [] h = absurd (omega arith)
zero_alone (d ∷ []) h = refl
zero_alone (d ∷ e ∷ ds) h = ne_eqb d 48 (λ s. omega (arith, h, s))

no_leading : (n : ℕ) → n < 65536 → has_leading_zero (decimal n) ≡ false
no_leading n fits =
    elim (cases_lt 0 n) [
      | inl some ↦ zero_alone (decimal n) (first_decimal n some (omega arith))
      | inr none ↦ ap has_leading_zero (decimal_digit n (omega arith))
    ]

-- a number is read back
pub number_back : (n : ℕ) → n < 65536 → number_in (decimal n) ≡ Some n
number_back n fits =
    let some : (length (decimal n) == 0) ≡ false = ne_eqb (length (decimal n)) 0 (λ e. omega (arith, e, decimal_nonempty n (omega arith))) in
    cond-false ((length (decimal n) == 0) || has_leading_zero (decimal n)) None (number_after 0 (decimal n))
    (or_from (length (decimal n) == 0) (has_leading_zero (decimal n)) some (no_leading n fits))
    ∙ all_read n fits

-- ---- the bytes of digits

AreDigits : ℕ → List ℕ → Type 0
AreDigits n ds = list_all is_digit ds ≡ true

pub digits_of : (n : ℕ) → n < 65536 → list_all is_digit (decimal n) ≡ true
unfolding AreDigits
digits_of n fits =
    decimal_by_steps AreDigits (λ m small. and_from (is_digit (48 + m)) true (digit_is m small) refl)
    (λ m ds long h.
    list_all-append is_digit ds ((48 + m % 10) ∷ [])
    ∙ and_from (list_all is_digit ds) (list_all is_digit ((48 + m % 10) ∷ [])) h (and_from (is_digit (48 + m % 10)) true (digit_is (m % 10) (omega arith)) refl))
    n (omega arith)

digit_low : (b : ℕ) → is_digit b ≡ true → 48 ≤ b
digit_low b h = leb-true 48 b (and_parts (nat_le 48 b) (nat_le b 57) h).0

pub digits_high : (ds : List ℕ) → list_all is_digit ds ≡ true → are_high ds ≡ true
digits_high [] h = refl
digits_high (d ∷ ds) h =
    let p = and_parts (is_digit d) (list_all is_digit ds) h in
    and_from (is_high d) (are_high ds) (le-leb 44 d (omega (arith, digit_low d p.0))) (digits_high ds p.1)

pub decimal_high : (n : ℕ) → n < 65536 → are_high (decimal n) ≡ true
decimal_high n fits = digits_high (decimal n) (digits_of n fits)

pub decimal_some : (n : ℕ) → n < 65536 → 1 ≤ length (decimal n)
decimal_some n fits = omega (arith, decimal_nonempty n (omega arith))

-- the comma after digits
pub comma_after : (ds rest : List ℕ) → list_all is_digit ds ≡ true → comma_place (ds ++ 44 ∷ rest) ≡ length ds
comma_after [] rest h = refl
comma_after (d ∷ ds) rest h =
    let p = and_parts (is_digit d) (list_all is_digit ds) h in
    let other : not (d == 44) ≡ true = not_from_false (d == 44) (ne_eqb d 44 (λ e. omega (arith, e, digit_low d p.0))) in
    let one : 1 + length ds ≡ length (d ∷ ds) = omega arith in
    cond-true (not (d == 44)) (1 + comma_place (ds ++ 44 ∷ rest)) 0 other ∙ ap (λ (n : ℕ). 1 + n) (comma_after ds rest p.1) ∙ one

-- ---- hexadecimal digits

-- a digit of this value is read as it
pub record IsGlyph (d byte : ℕ) : Type 0 where
  pub value : digit_value byte ≡ Some d
  pub high : is_high byte ≡ true

low_glyph : (d : ℕ) → d < 10 → IsGlyph d (48 + d)
low_glyph d small =
    let byte = 48 + d in
    let same : byte - 48 ≡ d = omega arith in
    record {
      value =
          cond-false (nat_lt byte 48) None (if nat_lt byte 58 then Some (byte - 48) else (if nat_lt byte 65 then None else (if nat_lt byte 71 then Some (byte - 55) else None))) (le-ltb byte 48 (omega arith))
          ∙ cond-true (nat_lt byte 58) (Some (byte - 48)) (if nat_lt byte 65 then None else (if nat_lt byte 71 then Some (byte - 55) else None)) (lt-ltb byte 58 (omega arith))
          ∙ ap Some same;
      high = le-leb 44 byte (omega arith);
    }

high_glyph : (d : ℕ) → 10 ≤ d → d < 16 → IsGlyph d (55 + d)
high_glyph d large small =
    let byte = 55 + d in
    let same : byte - 55 ≡ d = omega arith in
    record {
      value =
          cond-false (nat_lt byte 48) None (if nat_lt byte 58 then Some (byte - 48) else (if nat_lt byte 65 then None else (if nat_lt byte 71 then Some (byte - 55) else None))) (le-ltb byte 48 (omega arith))
          ∙ cond-false (nat_lt byte 58) (Some (byte - 48)) (if nat_lt byte 65 then None else (if nat_lt byte 71 then Some (byte - 55) else None)) (le-ltb byte 58 (omega arith))
          ∙ cond-false (nat_lt byte 65) None (if nat_lt byte 71 then Some (byte - 55) else None) (le-ltb byte 65 (omega arith))
          ∙ cond-true (nat_lt byte 71) (Some (byte - 55)) None (lt-ltb byte 71 (omega arith))
          ∙ ap Some same;
      high = le-leb 44 byte (omega arith);
    }

glyph_is : (d : ℕ) → d < 16 → IsGlyph d (digit_glyph true d)
glyph_is d small =
    elim (cases_lt d 10) [
      | inl low ↦ subst (IsGlyph d) (sym (cond-true (nat_lt d 10) (48 + d) (55 + d) (lt-ltb d 10 low))) (low_glyph d low)
      | inr high ↦ subst (IsGlyph d) (sym (cond-false (nat_lt d 10) (48 + d) (55 + d) (le-ltb d 10 high))) (high_glyph d high small)
    ]

-- the first number with more digits
abbrev limit : ℕ → ℕ
limit zero = 1
limit (suc count) = 16 * limit count

hex_step : (m d n byte : ℕ) (rest : List ℕ) → IsGlyph d byte → 16 * m + d ≡ n → n < 2 ^ 48 → word_after m (byte ∷ rest) ≡ word_after n rest
hex_step m d n byte rest glyph sum fits =
    let value : min GREATEST_WORD (16 * m + d) ≡ n = omega arith in
    ap (λ (o : Option ℕ). with_digit m o (λ (next : ℕ). word_after next rest)) glyph.value ∙ ap (λ (k : ℕ). word_after k rest) value

hex_read : (count n : ℕ) (rest : List ℕ) → n < limit count → n < 2 ^ 48 → word_after 0 (last_digits 16 count n ++ rest) ≡ word_after n rest
hex_read zero n rest less fits = let none : 0 ≡ n = omega arith in ap (λ (k : ℕ). word_after k rest) none
hex_read (suc count) n rest less fits =
    let byte = digit_glyph true (n % 16) in
    ap (word_after 0) (append_assoc (last_digits 16 count (n / 16)) (byte ∷ []) rest)
    ∙ hex_read count (n / 16) (byte ∷ rest) (omega (arith, less)) (omega (arith, fits))
    ∙ hex_step (n / 16) (n % 16) n byte rest (glyph_is (n % 16) (omega arith)) (omega arith) fits

hex_long : (count n : ℕ) → length (last_digits 16 count n) ≡ count
hex_long zero n = refl
hex_long (suc count) n =
    omega (arith, hex_long count (n / 16), length-append (last_digits 16 count (n / 16)) (digit_glyph true (n % 16) ∷ []))

pub hex_high : (count n : ℕ) → are_high (last_digits 16 count n) ≡ true
hex_high zero n = refl
hex_high (suc count) n =
    let front = last_digits 16 count (n / 16) in
    let byte = digit_glyph true (n % 16) in
    list_all-append is_high front (byte ∷ [])
    ∙ and_from (are_high front) (are_high (byte ∷ [])) (hex_high count (n / 16)) (and_from (is_high byte) true (glyph_is (n % 16) (omega arith)).high refl)

pub hex_some : (n : ℕ) → 1 ≤ length (last_digits 16 12 n)
hex_some n = omega (arith, hex_long 12 n)

-- a word is read back
pub word_back : (n : ℕ) → n < 2 ^ 48 → word_in (last_digits 16 12 n) ≡ Some n
word_back n fits =
    let text = last_digits 16 12 n in
    cond-true (length text == 12) (word_after 0 text) None (eq-eqb (length text) 12 (hex_long 12 n))
    ∙ ap (word_after 0) (sym (append-nil text))
    ∙ hex_read 12 n [] fits fits
