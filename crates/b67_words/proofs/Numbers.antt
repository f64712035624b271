-- Numbers as they are written and as they are parsed.
use Rattle.std.proofs.Common.{◌≡◌, ℕ, ◌^◌, ◌<◌, ◌≤◌, ◌≢◌, zero, suc, List, length, get_or, Result, Ok, Option, Bool, true, false, leb, refl, sym, ap, arith, ◌∙◌}
use Rattle.std.specs.Prelude.{codes}
use Rattle.std.specs.Fmt.{decimal}
use Rattle.std.specs.Str.Parse.{ParsesUnsigned, AllDigits, digits_value}
use Rattle.std.proofs.lemmas.Fmt.{first_decimal, decimal_digit, decimal_is_IsNumeral, decimal-digits_value, parse-decimal}
use Rattle.std.proofs.lemmas.Str.Parse.{IsNumeralModel, numerals_by_value, tells_digits, parse_plain, digit_at}
use Rattle.std.specs.Bool.{then_some}
use Rattle.std.proofs.lemmas.Bool.{leb-true, leb-false}
use Rattle.b67_words.specs.Grammar.{IsWordNumber, IsNumberOrNone, IsFromZero}

own : IsNumeralModel (AllDigits 10) (digits_value 10)
own = numerals_by_value (AllDigits 10) tells_digits

-- a number begins with a digit other than 0
pub first_digit : (most : ℕ) (text : List ℕ) (n : ℕ) → most < 2 ^ 64 → IsWordNumber most text n → (49 ≤ get_or text 0 0) × (get_or text 0 0 ≤ 57)
first_digit most text n small is =
    let least = is.least in
    let fits : n < 2 ^ 64 = omega (arith, is.greatest) in
    let shape = decimal_is_IsNumeral n fits in
    rw (is.written) (first_decimal n least fits, (digit_at (decimal n) 0 shape.0.1 shape.0.0).1)

-- a number that begins so is not 0
not_zero : (n : ℕ) → 49 ≤ get_or (decimal n) 0 0 → 1 ≤ n
not_zero zero low = let e : get_or (decimal 0) 0 0 ≡ 48 = rw (decimal_digit 0 (omega arith)) refl in absurd (omega arith)
not_zero (suc n) low = omega arith

-- a text that begins so is what the number that is parsed from it is written as
pub parsed : {E : Type 0} (most : ℕ) (text : List ℕ) (n : ℕ) (r : Result ℕ E) → ParsesUnsigned 64 10 text r → r ≡ Ok n → 49 ≤ get_or text 0 0 → n ≤ most → IsWordNumber most text n
parsed most text n r h e low fits =
    let bare : get_or text 0 0 ≢ 43 = λ p. omega arith in
    let zero_less : get_or text 0 0 ≡ 48 → length text ≡ 1 = λ p. absurd (omega arith) in
    let plain = rw e at (parse_plain own 64 text r h bare) in
    let written : decimal (digits_value 10 text) ≡ text = decimal-digits_value own text plain.0.0 plain.0.1 zero_less plain.0.2 in
    let said : text ≡ decimal n = sym written ∙ ap (λ v. decimal v) (sym plain.1) in
    record { written = said; least = not_zero n (rw said at low); greatest = fits }

-- what is parsed from the text of a number is that number
pub reads : {E : Type 0} (most : ℕ) (text : List ℕ) (n : ℕ) (r : Result ℕ E) → most < 2 ^ 64 → ParsesUnsigned 64 10 text r → IsWordNumber most text n → r ≡ Ok n
reads most text n r small h is =
    let fits : n < 2 ^ 64 = omega (arith, is.greatest) in
    parse-decimal 64 n text r fits fits is.written h

-- what was parsed is the number where it is small enough, and else there is none
pub kept : {E : Type 0} (most : ℕ) (text : List ℕ) (n : ℕ) (r : Result ℕ E) (small : Bool) (o : Option ℕ) → most < 2 ^ 64 → ParsesUnsigned 64 10 text r → r ≡ Ok n →
    49 ≤ get_or text 0 0 → small ≡ leb n most → o ≡ then_some small n → IsNumberOrNone most text o
kept most text n r true o fits h e low t s = rw s (parsed most text n r h e low (leb-true n most (sym t)))
kept most text n r false o fits h e low t s =
    let great : most < n = leb-false n most (sym t) in
    rw s (λ m is. let f : r ≡ Ok m = reads most text m r fits h is in let same : m ≡ n = cc in let bound = is.greatest in absurd (omega arith))

-- ---- numbers from 0 on

-- the first digit is one
pub digit_first : (most : ℕ) (text : List ℕ) (n : ℕ) → most < 2 ^ 64 → IsFromZero most text n → 48 ≤ get_or text 0 0
digit_first most text n small is =
    let fits : n < 2 ^ 64 = omega (arith, is.greatest) in
    let shape = decimal_is_IsNumeral n fits in
    rw (is.written) ((digit_at (decimal n) 0 shape.0.1 shape.0.0).0)

pub zero_from : (most : ℕ) (text : List ℕ) → text ≡ codes "0" → IsFromZero most text 0
zero_from most text e = record { written = e ∙ sym (decimal_digit 0 (omega arith)); greatest = omega arith }

pub none_from : (most : ℕ) (text : List ℕ) → text ≢ codes "0" → ((n : ℕ) → IsWordNumber most text n → ⊥) → (n : ℕ) → IsFromZero most text n → ⊥
none_from most text other none zero is = other (is.written ∙ decimal_digit 0 (omega arith))
none_from most text other none (suc n) is = none (suc n) (record { written = is.written; least = omega arith; greatest = is.greatest })
