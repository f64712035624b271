-- What the operations on whole numbers answer, for proofs that look at a result and not at its definition.
use Rattle.std.proofs.Common.{◌≡◌, ℕ, ◌<◌, ◌≤◌, ◌%◌, arith, nat_eq}
use Rattle.std.proofs.lemmas.Bool.Decides.{nat_tests}
use Rattle.std.proofs.lemmas.Int.{ints, quot-rem, rem_below}
use Rattle.std.specs.Prelude.{ℤ, pos, negsuc, ◌≤ℤ◌, ◌*ℤ◌, ◌+ℤ◌, ◌-ℤ◌, unsigned_abs, int_div, int_rem, Result, Ok, Err, cond}
use Rattle.b67_num.specs.Whole.{most, whole, over, calculated, negation_of, IsDivision}
use Rattle.b67_num.specs.declared.Calculation.{Calculation}
use Rattle.b67_num.specs.declared.Calculation.TheVariants.{Sum, Difference, Product, WholeQuotient, TruncatedQuotient, Remainder}
use Rattle.b67_num.specs.declared.NumFault.{NumFault}
use Rattle.b67_num.specs.declared.NumFault.TheVariants.{RealResult}

-- a number of at most the greatest magnitude is its own exact result
pub whole_fitting : (z : ℤ) → unsigned_abs z ≤ most → whole z ≡ Ok z
unfolding whole
whole_fitting z h = grind (arith)

-- an exact result that is there is the number itself, and small enough
pub whole_ok : (z y : ℤ) → whole z ≡ Ok y → (z ≡ y) × (unsigned_abs y ≤ most)
unfolding whole
whole_ok z y e = grind (arith, nat_tests)

not_negative : (a b : ℤ) → pos 0 ≤ℤ a → pos 0 ≤ℤ int_rem a b
not_negative (pos n) b h = omega (arith, ints)
not_negative (negsuc n) b h = absurd (omega (arith, ints))

zero_left : (n k : ℕ) → n ≡ 0 → n % k ≡ 0
zero_left n k e = grind arith

not_positive : (a b : ℤ) → a ≤ℤ pos 0 → int_rem a b ≤ℤ pos 0
not_positive (pos n) b h = let e : n ≡ 0 = omega (arith, ints) in omega (arith, ints, zero_left n (unsigned_abs b) e)
not_positive (negsuc n) b h = omega (arith, ints)

-- a division that has a result has a divisor that is not 0, and its result
pub over_ok : (b y : ℤ) (r : Result ℤ NumFault) → over b r ≡ Ok y → (0 < unsigned_abs b) × (r ≡ Ok y)
unfolding over
over_ok b y r e = grind (arith, nat_tests)

divides_at : (a b : ℤ) → 0 < unsigned_abs b → IsDivision a b (int_div a b) (int_rem a b)
divides_at a b h = record {
  restores = quot-rem a b;
  smaller = rem_below a b h;
  not_negative = not_negative a b;
  not_positive = not_positive a b;
}

pub divides : (a b q r : ℤ) → calculated TruncatedQuotient a b ≡ Ok q → calculated Remainder a b ≡ Ok r → IsDivision a b q r
unfolding calculated
divides a b q r e f =
    let d = over_ok b q (whole (int_div a b)) e in
    let g = over_ok b r (whole (int_rem a b)) f in
    let x : int_div a b ≡ q = (whole_ok (int_div a b) q d.1).0 in
    let y : int_rem a b ≡ r = (whole_ok (int_rem a b) r g.1).0 in
    rw (← x, ← y) (divides_at a b d.0)

-- the parts of an exact quotient's test
divided : (n : ℕ) (r : Result ℤ NumFault) (q : ℤ) → cond (nat_eq n 0) r (Err RealResult) ≡ Ok q → (n ≡ 0) × (r ≡ Ok q)
divided n r q e = grind (arith, nat_tests)

nothing_left : (a b : ℤ) → unsigned_abs (int_rem a b) ≡ 0 → int_div a b *ℤ b ≡ a
nothing_left a b h = omega (arith, ints, quot-rem a b)

pub divides_exactly : (a b q : ℤ) → calculated WholeQuotient a b ≡ Ok q → q *ℤ b ≡ a
unfolding calculated
divides_exactly a b q e =
    let d = over_ok b q _ e in
    let g = divided (unsigned_abs (int_rem a b)) (whole (int_div a b)) q d.1 in
    let x : int_div a b ≡ q = (whole_ok (int_div a b) q g.1).0 in
    rw (← x) (nothing_left a b g.0)

-- what a calculation gives is a whole number
pub calculated_fits : (calculation : Calculation) (a b z : ℤ) → calculated calculation a b ≡ Ok z → unsigned_abs z ≤ most
unfolding calculated
calculated_fits Sum a b z e = (whole_ok (a +ℤ b) z e).1
calculated_fits Difference a b z e = (whole_ok (a -ℤ b) z e).1
calculated_fits Product a b z e = (whole_ok (a *ℤ b) z e).1
calculated_fits WholeQuotient a b z e =
    let d = over_ok b z _ e in
    (whole_ok (int_div a b) z (divided (unsigned_abs (int_rem a b)) (whole (int_div a b)) z d.1).1).1
calculated_fits TruncatedQuotient a b z e = (whole_ok (int_div a b) z (over_ok b z (whole (int_div a b)) e).1).1
calculated_fits Remainder a b z e = (whole_ok (int_rem a b) z (over_ok b z (whole (int_rem a b)) e).1).1

pub negation_of_fits : (a : ℤ) → unsigned_abs a ≤ most → unsigned_abs (negation_of a) ≤ most
negation_of_fits a h = omega (arith, ints)
