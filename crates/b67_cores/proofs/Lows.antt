-- What code calculates that moves a subscript by a lower bound: no result of it has too great a magnitude.
use Rattle.std.proofs.Common.{◌≡◌, refl, ap, ◌∙◌, Bool, true, false, ℤ, pos, Ok, arith}
use Rattle.std.specs.Prelude.{int_lt, int_le, neg_ℤ, ◌+ℤ◌, ◌-ℤ◌, ◌*ℤ◌, ◌≤ℤ◌, ◌<ℤ◌, if◌then◌else◌}
use Rattle.std.proofs.lemmas.Int.{ints}
use Rattle.b67_num.specs.declared.Calculation.TheVariants.{Sum, Difference, Product}
use Rattle.b67_num.specs.Whole.{whole, calculated}
use Rattle.b67_num.proofs.WholeLaws.{whole_fitting}
use Rattle.b67_templates.specs.Fragments.{IsWholeNumber, Low, zero, above, near, far, low_of}
use Rattle.b67_cores.proofs.Taking.{one_if}

-- ---- where a lower bound lies

pub is_least : (a b : ℤ) → int_le a b ≡ true → a ≤ℤ b
is_least a b e = grind (arith, ints)

pub is_less : (a b : ℤ) → int_lt a b ≡ true → a <ℤ b
is_less a b e = grind (arith, ints)

pub not_less : (a b : ℤ) → int_lt a b ≡ false → b ≤ℤ a
not_less a b e = grind (arith, ints)

abbrev chosen : Bool → Bool → Bool → Low
chosen a b c = if a then above else if b then zero else if c then near else far

chosen_above : (a b c : Bool) → chosen a b c ≡ above → a ≡ true
chosen_above true b c e = refl
chosen_above false true c e = cc
chosen_above false false true e = cc
chosen_above false false false e = cc

chosen_near : (a b c : Bool) → chosen a b c ≡ near → (a ≡ false) × (c ≡ true)
chosen_near true b c e = cc
chosen_near false true c e = cc
chosen_near false false true e = (refl, refl)
chosen_near false false false e = cc

chosen_far : (a b c : Bool) → chosen a b c ≡ far → a ≡ false
chosen_far true b c e = cc
chosen_far false b c e = refl

is_above : (low : ℤ) → low_of low ≡ above → pos 0 <ℤ low
is_above low e = is_less (pos 0) low (chosen_above (int_lt (pos 0) low) (int_le (pos 0) low) (int_lt (neg_ℤ (pos 1048576)) low) e)

is_near : (low : ℤ) → low_of low ≡ near → (low ≤ℤ pos 0) × (neg_ℤ (pos 1048576) <ℤ low)
is_near low e =
    let c = chosen_near (int_lt (pos 0) low) (int_le (pos 0) low) (int_lt (neg_ℤ (pos 1048576)) low) e in
    (not_less (pos 0) low c.0, is_less (neg_ℤ (pos 1048576)) low c.1)

is_far : (low : ℤ) → low_of low ≡ far → low ≤ℤ pos 0
is_far low e = not_less (pos 0) low (chosen_far (int_lt (pos 0) low) (int_le (pos 0) low) (int_lt (neg_ℤ (pos 1048576)) low) e)

-- ---- products with a comparison

one_time : (z : ℤ) → pos 1 *ℤ z ≡ z
one_time z = omega (arith, ints)

no_time : (z : ℤ) → pos 0 *ℤ z ≡ pos 0
no_time z = omega (arith, ints)

pub time_one : (z : ℤ) → z *ℤ pos 1 ≡ z
time_one z = omega (arith, ints)

pub time_none : (z : ℤ) → z *ℤ pos 0 ≡ pos 0
time_none z = omega (arith, ints)

-- the bound where the comparison holds, and else 0
pub bound_product : (b : Bool) (z : ℤ) → IsWholeNumber z → calculated Product (one_if b) z ≡ Ok (if b then z else pos 0)
unfolding calculated
bound_product true z h = ap whole (one_time z) ∙ whole_fitting z h
bound_product false z h = ap whole (no_time z) ∙ whole_fitting (pos 0) (omega arith)

pub subscript_product : (b : Bool) (z : ℤ) → IsWholeNumber z → calculated Product z (one_if b) ≡ Ok (if b then z else pos 0)
unfolding calculated
subscript_product true z h = ap whole (time_one z) ∙ whole_fitting z h
subscript_product false z h = ap whole (time_none z) ∙ whole_fitting (pos 0) (omega arith)

pub square : calculated Product (pos 65535) (pos 65535) ≡ Ok (pos 4294836225)
unfolding calculated whole
square = refl

-- ---- a subscript is moved where the comparison holds

negative_whole : (z : ℤ) → IsWholeNumber z → IsWholeNumber (neg_ℤ z)
negative_whole z h = omega (arith, ints, h)

-- a bound is whole where its negative is
pub whole_again : (z : ℤ) → IsWholeNumber (neg_ℤ z) → IsWholeNumber z
whole_again z h = omega (arith, ints, h)

less_none : (i : ℤ) → i -ℤ pos 0 ≡ i
less_none i = omega (arith, ints)

more_none : (i : ℤ) → i +ℤ pos 0 ≡ i
more_none i = omega (arith, ints)

none_more : (i : ℤ) → pos 0 +ℤ i ≡ i
none_more i = omega (arith, ints)

as_difference : (i low : ℤ) → i +ℤ neg_ℤ low ≡ i -ℤ low
as_difference i low = omega (arith, ints)

by_difference : (b : Bool) (low i : ℤ) → (b ≡ true → IsWholeNumber (i -ℤ low)) → IsWholeNumber i
    → calculated Difference i (if b then low else pos 0) ≡ Ok (if b then i -ℤ low else i)
unfolding calculated
by_difference true low i h k = whole_fitting (i -ℤ low) (h refl)
by_difference false low i h k = ap whole (less_none i) ∙ whole_fitting i k

by_sum : (b : Bool) (low i : ℤ) → (b ≡ true → IsWholeNumber (i -ℤ low)) → IsWholeNumber i
    → calculated Sum i (if b then neg_ℤ low else pos 0) ≡ Ok (if b then i -ℤ low else i)
unfolding calculated
by_sum true low i h k = ap whole (as_difference i low) ∙ whole_fitting (i -ℤ low) (h refl)
by_sum false low i h k = ap whole (more_none i) ∙ whole_fitting i k

by_bound : (b : Bool) (low i : ℤ) → (b ≡ true → IsWholeNumber (i -ℤ low)) → IsWholeNumber (neg_ℤ low)
    → calculated Sum (if b then i else pos 0) (neg_ℤ low) ≡ Ok (if b then i -ℤ low else neg_ℤ low)
unfolding calculated
by_bound true low i h k = ap whole (as_difference i low) ∙ whole_fitting (i -ℤ low) (h refl)
by_bound false low i h k = ap whole (none_more (neg_ℤ low)) ∙ whole_fitting (neg_ℤ low) k

module _ (low i : ℤ) (small : IsWholeNumber low) (whole_i : IsWholeNumber i) where
  above_fits : pos 0 <ℤ low → pos 0 ≤ℤ i → IsWholeNumber (i -ℤ low)
  above_fits h k = omega (arith, ints, small, whole_i)

  near_fits : low ≤ℤ pos 0 → neg_ℤ (pos 1048576) <ℤ low → i ≤ℤ pos 4294836225 → IsWholeNumber (i -ℤ low)
  near_fits h k l = omega (arith, ints, small, whole_i)

  far_fits : low ≤ℤ pos 0 → i <ℤ pos 0 → IsWholeNumber (i -ℤ low)
  far_fits h k = omega (arith, ints, small, whole_i)

  pub above_moved : low_of low ≡ above
      → calculated Difference i (if int_le (pos 0) i then low else pos 0) ≡ Ok (if int_le (pos 0) i then i -ℤ low else i)
  above_moved e = by_difference (int_le (pos 0) i) low i (λ b. above_fits (is_above low e) (is_least (pos 0) i b)) whole_i

  pub near_moved : low_of low ≡ near
      → calculated Sum i (if int_le i (pos 4294836225) then neg_ℤ low else pos 0) ≡ Ok (if int_le i (pos 4294836225) then i -ℤ low else i)
  near_moved e =
      by_sum (int_le i (pos 4294836225)) low i (λ b. near_fits (is_near low e).0 (is_near low e).1 (is_least i (pos 4294836225) b)) whole_i

  pub far_moved : low_of low ≡ far
      → calculated Sum (if int_lt i (pos 0) then i else pos 0) (neg_ℤ low) ≡ Ok (if int_lt i (pos 0) then i -ℤ low else neg_ℤ low)
  far_moved e = by_bound (int_lt i (pos 0)) low i (λ b. far_fits (is_far low e) (is_less i (pos 0) b)) (negative_whole low small)
