-- The rows of an array: where it has too many elements for a number of the code, each number is one of the first row.
use Rattle.std.proofs.Common.{arith, ◌≡◌, refl, sym, ◌∙◌, ℕ, ◌-◌, ◌/◌, ◌%◌, ◌^◌, ◌<◌, ◌≤◌, min, Bool, true, false, nat_le}
use Rattle.std.proofs.lemmas.Bool.Decides.{nat_tests}
use Rattle.std.proofs.Math.Nat.{div-eq_of_lt, mod-eq_of_lt, mod-le}
use Rattle.algol_instances.specs.SeenArray.{capped}

module _ (m k e : ℕ) (few : k < m) where
  row_by : (b : Bool) → nat_le e m ≡ b → k / min e m ≡ k / e
  row_by true p =
      let le : e ≤ m = grind (arith, nat_tests, p) in
      let same : min e m ≡ e = omega arith in rw same refl
  row_by false p =
      let lt : m < e = grind (arith, nat_tests, p) in
      let same : min e m ≡ m = omega arith in
      let far : k < e = omega arith in
      rw same (div-eq_of_lt few ∙ sym (div-eq_of_lt far))

  place_by : (b : Bool) → nat_le e m ≡ b → k % min e m ≡ k % e
  place_by true p =
      let le : e ≤ m = grind (arith, nat_tests, p) in
      let same : min e m ≡ e = omega arith in rw same refl
  place_by false p =
      let lt : m < e = grind (arith, nat_tests, p) in
      let same : min e m ≡ m = omega arith in
      let far : k < e = omega arith in
      rw same (mod-eq_of_lt few ∙ sym (mod-eq_of_lt far))

pub row_of : (k e : ℕ) → k < 2 ^ 64 - 1 → k / capped e ≡ k / e
row_of k e few = row_by (2 ^ 64 - 1) k e few (nat_le e (2 ^ 64 - 1)) refl

pub place_of : (k e : ℕ) → k < 2 ^ 64 - 1 → k % capped e ≡ k % e
place_of k e few = place_by (2 ^ 64 - 1) k e few (nat_le e (2 ^ 64 - 1)) refl

pub place_within : (k e : ℕ) → k % e ≤ k
place_within k e = mod-le k e

pub ruleset row_laws = (row_of, place_of, place_within)
