-- What reading a word gives, for proofs above this crate.
use Rattle.std.proofs.Common.{◌≡◌, ℕ, suc, ◌+◌, ◌-◌, ◌*◌, ◌/◌, ◌%◌, ◌^◌, ◌<◌, ◌≤◌, ◌↔◌, ◌==◌, ◌&&◌, ◌≢◌, refl, sym, ◌∙◌, ap, arith}
use Rattle.std.proofs.lemmas.Bool.{eqb-true, eq-eqb, and_parts, ne_eqb}
use Rattle.std.proofs.lemmas.Bool.Decides.{nat_tests}
use Rattle.std.proofs.lemmas.Int.{ints}
use Rattle.std.proofs.lemmas.Nat.{mod_below, pow_pos, shr_high, mod_low, shr-shr}
use Rattle.std.specs.Prelude.{ℤ, pos, negsuc, unsigned_abs, Bool, true, false, cond, Some, None, IsSome, is_some}
use Rattle.b67_word.specs.Word.{Word, word, IsWord, field, set_field, most_mantissa, signed, operand, is_whole, as_whole, truth, as_truth}
use Rattle.b67_word.specs.Laws.{IsOperand, OperandsAreReadBack, OneFieldIsSet}

-- what `set_field` leaves, by the places of the field
pub field_set_field : (s n value bits : ℕ) → n ≤ s + 1 → value < 2 ^ n → field s n (set_field s n value bits) ≡ value
unfolding field set_field
field_set_field s n value bits p q =
    let low = s + 1 - n in
    let high = bits / 2 ^ (s + 1) * 2 ^ n + value in
    let r : bits % 2 ^ low < 2 ^ low = mod_below bits (2 ^ low) (pow_pos low) in
    rw (shr_high high low (bits % 2 ^ low) r) (mod_low (bits / 2 ^ (s + 1)) n value q)

pub set_field_above : (s n value bits : ℕ) → n ≤ s + 1 → value < 2 ^ n → set_field s n value bits / 2 ^ (s + 1) ≡ bits / 2 ^ (s + 1)
unfolding set_field
set_field_above s n value bits p q =
    let low = s + 1 - n in
    let high = bits / 2 ^ (s + 1) * 2 ^ n + value in
    let r : bits % 2 ^ low < 2 ^ low = mod_below bits (2 ^ low) (pow_pos low) in
    let e : low + n ≡ s + 1 = omega arith in
    let whole = high * 2 ^ low + bits % 2 ^ low in
    let twice : whole / 2 ^ low / 2 ^ n ≡ whole / 2 ^ (s + 1) = shr-shr whole low n ∙ ap (λ k. whole / 2 ^ k) e in
    sym twice ∙ ap (λ k. k / 2 ^ n) (shr_high high low (bits % 2 ^ low) r) ∙ shr_high (bits / 2 ^ (s + 1)) n value q

pub set_field_below : (s n value bits : ℕ) → set_field s n value bits % 2 ^ (s + 1 - n) ≡ bits % 2 ^ (s + 1 - n)
unfolding set_field
set_field_below s n value bits =
    let low = s + 1 - n in
    mod_low (bits / 2 ^ (s + 1) * 2 ^ n + value) low (bits % 2 ^ low) (mod_below bits (2 ^ low) (pow_pos low))

pub setting : OneFieldIsSet
setting = record { set = field_set_field; above = set_field_above; below = set_field_below }

-- the fields of a sign and a magnitude
parts : (s m : ℕ) → s < 2 → m < 2 ^ 39 → (field 47 1 (s * 2 ^ 46 + m) ≡ 0) × (field 45 1 (s * 2 ^ 46 + m) ≡ 0) × (field 44 6 (s * 2 ^ 46 + m) ≡ 0) × (field 46 1 (s * 2 ^ 46 + m) ≡ s) × (field 38 39 (s * 2 ^ 46 + m) ≡ m)
unfolding field
parts s m p q = (omega arith, omega arith, omega arith, omega arith, omega arith)

is_whole_from : (w : Word) → IsOperand w → is_whole w ≡ true
unfolding is_whole
is_whole_from w o = rw (o.tag, o.no_top, o.no_exponent_sign, o.no_exponent) refl

is_whole_to : (w : Word) → is_whole w ≡ true → IsOperand w
unfolding is_whole
is_whole_to w e =
    let top = field 47 1 w.bits == 0 in
    let sign = field 45 1 w.bits == 0 in
    let none = field 44 6 w.bits == 0 in
    let a = and_parts (w.tag == 0 && top && sign) none e in
    let b = and_parts (w.tag == 0 && top) sign a.0 in
    let d = and_parts (w.tag == 0) top b.0 in
    record {
      tag = eqb-true w.tag 0 d.0;
      no_top = eqb-true (field 47 1 w.bits) 0 d.1;
      no_exponent_sign = eqb-true (field 45 1 w.bits) 0 b.1;
      no_exponent = eqb-true (field 44 6 w.bits) 0 a.1;
    }

read_as : (w : Word) (z : ℤ) → IsOperand w → signed (field 46 1 w.bits) (field 38 39 w.bits) ≡ z → as_whole w ≡ Some z
unfolding as_whole
read_as w z o e = rw (is_whole_from w o, e) refl

pub as_whole_operand : (z : ℤ) → unsigned_abs z ≤ most_mantissa → as_whole (operand z) ≡ Some z
unfolding operand
as_whole_operand (pos n) h =
    let p = parts 0 n (omega arith) (omega arith) in
    read_as (operand (pos n)) (pos n) (record { tag = refl; no_top = p.0; no_exponent_sign = p.1; no_exponent = p.2 }) (rw (p.3, p.4) refl)
as_whole_operand (negsuc n) h =
    let p = parts 1 (suc n) (omega arith) (omega arith) in
    read_as (operand (negsuc n)) (negsuc n) (record { tag = refl; no_top = p.0; no_exponent_sign = p.1; no_exponent = p.2 }) (rw (p.3, p.4) refl)

signed_abs : (s m : ℕ) → unsigned_abs (signed s m) ≡ m
signed_abs s m = grind (arith, ints, nat_tests)

pub field_fits : (s n bits : ℕ) → field s n bits < 2 ^ n
unfolding field
field_fits s n bits = mod_below (bits / 2 ^ (s + 1 - n)) (2 ^ n) (pow_pos n)

-- what a word is read as, by its parts
some_whole : (b : Bool) (x z : ℤ) → cond b (Some x) None ≡ Some z → (b ≡ true) × (x ≡ z)
some_whole true x z e = (refl, cc)
some_whole false x z e = cc

pub as_whole_fits : (w : Word) (z : ℤ) → as_whole w ≡ Some z → unsigned_abs z ≤ most_mantissa
unfolding as_whole
as_whole_fits w z e =
    let p = some_whole (is_whole w) (signed (field 46 1 w.bits) (field 38 39 w.bits)) z e in
    rw (← p.1) (omega (arith, signed_abs (field 46 1 w.bits) (field 38 39 w.bits), field_fits 38 39 w.bits))

pub as_whole_is_operand : (w : Word) (z : ℤ) → as_whole w ≡ Some z → IsOperand w
unfolding as_whole
as_whole_is_operand w z e = is_whole_to w (some_whole (is_whole w) (signed (field 46 1 w.bits) (field 38 39 w.bits)) z e).0

pub as_whole_tag : (w : Word) (z : ℤ) → as_whole w ≡ Some z → w.tag ≡ 0
as_whole_tag w z e = (as_whole_is_operand w z e).tag

is_some_cond : {A : Type 0} (b : Bool) (x : A) → IsSome (cond b (Some x) None) ↔ (b ≡ true)
is_some_cond true x = (λ h. refl, λ h. refl)
is_some_cond false x = (λ h. h, λ h. h)

pub as_whole_read : (w : Word) → IsSome (as_whole w) ↔ IsOperand w
unfolding as_whole
as_whole_read w =
    let p = is_some_cond (is_whole w) (signed (field 46 1 w.bits) (field 38 39 w.bits)) in
    (λ h. is_whole_to w (p.0 h), λ o. p.1 (is_whole_from w o))

pub operand_word_is : (z : ℤ) → unsigned_abs z ≤ most_mantissa → IsWord (operand z)
unfolding operand
operand_word_is (pos n) h = record { tag = omega arith; bits = omega arith }
operand_word_is (negsuc n) h = record { tag = omega arith; bits = omega arith }

pub operand_has_tag : (z : ℤ) → (operand z).tag ≡ 0
unfolding operand
operand_has_tag z = refl

minus_zero : as_whole (word 0 (2 ^ 46)) ≡ Some (pos 0)
unfolding as_whole is_whole field
minus_zero = refl

pub as_truth_truth : (b : Bool) → as_truth (truth b) ≡ Some b
unfolding as_truth truth field
as_truth_truth true = refl
as_truth_truth false = refl

pub truth_is_word : (b : Bool) → IsWord (truth b)
unfolding truth
truth_is_word true = record { tag = omega arith; bits = omega arith }
truth_is_word false = record { tag = omega arith; bits = omega arith }

pub truth_has_tag : (b : Bool) → (truth b).tag ≡ 0
unfolding truth
truth_has_tag b = refl

pub as_truth_read : (w : Word) → IsSome (as_truth w) ↔ (w.tag ≡ 0)
unfolding as_truth
as_truth_read w =
    let p = is_some_cond (w.tag == 0) (field 0 1 w.bits == 1) in
    (λ h. eqb-true w.tag 0 (p.0 h), λ o. p.1 (eq-eqb w.tag 0 o))

pub as_truth_tag : (w : Word) (b : Bool) → as_truth w ≡ Some b → w.tag ≡ 0
as_truth_tag w b e = (as_truth_read w).0 (ap is_some e)

-- a word of another tag is read neither as a whole number nor as a truth value
pub as_whole_other : (w : Word) → w.tag ≢ 0 → as_whole w ≡ None
unfolding as_whole is_whole
as_whole_other w h = rw (ne_eqb w.tag 0 h) refl

pub as_truth_other : (w : Word) → w.tag ≢ 0 → as_truth w ≡ None
unfolding as_truth
as_truth_other w h = rw (ne_eqb w.tag 0 h) refl

pub operands : OperandsAreReadBack
operands = record {
  whole_back = as_whole_operand;
  operand_word = operand_word_is;
  operand_tag = operand_has_tag;
  small = as_whole_fits;
  read = as_whole_read;
  minus_zero = minus_zero;
  truth_back = as_truth_truth;
  truth_word = truth_is_word;
  truth_tag = truth_has_tag;
  truth_read = as_truth_read;
}
