-- The place of a subscript that counts from another bound.
use Rattle.std.proofs.Common.{arith, ◌≡◌, ℕ, ◌≤◌, ◌<◌, ◌&&◌, ℤ, ◌+ℤ◌, ◌-ℤ◌, ◌≤ℤ◌, ◌<ℤ◌, true, false, Some, None, ap, ◌∙◌, refl}
use Rattle.std.specs.Prelude.{nat_abs, int_le, unsigned_abs}
use Rattle.std.proofs.lemmas.Int.{ints}
use Rattle.algol_tree.specs.Sorts as sort
use Rattle.algol_tree.specs.Sorts.{Sort}
use Rattle.algol_meaning.specs.Value.{Bounds}
use Rattle.algol_meaning.specs.Arrays.{placed, moved}
use Rattle.algol_instances.specs.SeenArray.{base_of}

module _ (low high base i : ℤ) where
  shifted : ℤ
  shifted = i +ℤ (low -ℤ base)

  within : base ≤ℤ i → low ≤ℤ high → unsigned_abs (i -ℤ base) ≤ unsigned_abs (high -ℤ low) → (int_le low shifted && int_le shifted high) ≡ true
  unfolding shifted
  within p q r = grind (arith, ints)

  below : i <ℤ base → (int_le low shifted && int_le shifted high) ≡ false
  unfolding shifted
  below p = grind (arith, ints)

  empty : high <ℤ low → (int_le low shifted && int_le shifted high) ≡ false
  unfolding shifted
  empty p = grind (arith, ints)

  above : base ≤ℤ i → low ≤ℤ high → unsigned_abs (high -ℤ low) < unsigned_abs (i -ℤ base) → (int_le low shifted && int_le shifted high) ≡ false
  unfolding shifted
  above p q r = grind (arith, ints)

  same_place : nat_abs (shifted -ℤ low) ≡ unsigned_abs (i -ℤ base)
  unfolding shifted
  same_place = let e : shifted -ℤ low ≡ i -ℤ base = omega (arith, ints) in ap nat_abs e

  pub placed_within :
      base ≤ℤ i → low ≤ℤ high → unsigned_abs (i -ℤ base) ≤ unsigned_abs (high -ℤ low)
      → placed (record { low = low; high = high }) (i +ℤ (low -ℤ base)) ≡ Some (unsigned_abs (i -ℤ base))
  unfolding shifted
  placed_within p q r = rw (within p q r) (ap Some same_place)

  pub placed_below : i <ℤ base → placed (record { low = low; high = high }) (i +ℤ (low -ℤ base)) ≡ None
  unfolding shifted
  placed_below p = rw (below p) refl

  pub placed_empty : high <ℤ low → placed (record { low = low; high = high }) (i +ℤ (low -ℤ base)) ≡ None
  unfolding shifted
  placed_empty p = rw (empty p) refl

  pub placed_above :
      base ≤ℤ i → low ≤ℤ high → unsigned_abs (high -ℤ low) < unsigned_abs (i -ℤ base)
      → placed (record { low = low; high = high }) (i +ℤ (low -ℤ base)) ≡ None
  unfolding shifted
  placed_above p q r = rw (above p q r) refl

-- ---- formal arrays

pub moved_not : (s : Sort) (b : Bounds) (d : ℕ) (i : ℤ) → None ≡ base_of s d → i +ℤ (b.low -ℤ b.low) ≡ moved s (Some b) d i
moved_not s b d i e = same i b.low ∙ by s e
  where
    same : (x l : ℤ) → x +ℤ (l -ℤ l) ≡ x
    same x l = omega (arith, ints)

    by : (s : Sort) → None ≡ base_of s d → i ≡ moved s (Some b) d i
    by sort.variable e = refl
    by sort.by_name e = refl
    by sort.array e = refl
    by (sort.formal_array lows) e = rw (← e) refl
    by sort.event e = refl
    by sort.formal_event e = refl
    by sort.label e = refl
    by sort.file e = refl
    by (sort.procedure n) e = refl

pub moved_so : (s : Sort) (b : Bounds) (d : ℕ) (i low : ℤ) → Some low ≡ base_of s d → i +ℤ (b.low -ℤ low) ≡ moved s (Some b) d i
moved_so (sort.formal_array lows) b d i low e = rw (← e) refl
moved_so sort.variable b d i low e = cc
moved_so sort.by_name b d i low e = cc
moved_so sort.array b d i low e = cc
moved_so sort.event b d i low e = cc
moved_so sort.formal_event b d i low e = cc
moved_so sort.label b d i low e = cc
moved_so sort.file b d i low e = cc
moved_so (sort.procedure n) b d i low e = cc
