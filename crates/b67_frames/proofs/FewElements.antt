-- Each dimension of an array has an element, and no more than there may be.
use Rattle.std.proofs.Common.{ℕ, ◌*◌, ◌≤◌, [], ◌∷◌, arith}
use Rattle.b67_frames.proofs.Prelude.{size_of, Bounds, AreSized}

product : (k m n : ℕ) → m ≤ n → k * m ≤ k * n
product k m n h = grind arith

-- of one dimension
pub record OneSized (b : Bounds) : Type 0 where
  pub some : 1 ≤ size_of b
  pub few : size_of b ≤ 1048576

pub one_sized : (b : Bounds) → AreSized (b ∷ []) → OneSized b
one_sized b sized = let most : size_of b * 1 ≤ 1048576 = sized.1 in record { some = sized.0.0; few = omega (arith, most) }

-- of two
pub record TwoSized (b c : Bounds) : Type 0 where
  pub first : OneSized b
  pub second : OneSized c

pub two_sized : (b c : Bounds) → AreSized (b ∷ c ∷ []) → TwoSized b c
two_sized b c sized =
    let some : 1 ≤ size_of b = sized.0.0 in
    let some' : 1 ≤ size_of c = sized.0.1.0 in
    let most : size_of b * (size_of c * 1) ≤ 1048576 = sized.1 in
    let by_first : size_of b * 1 ≤ size_of b * size_of c = product (size_of b) 1 (size_of c) some' in
    let by_second : size_of c * 1 ≤ size_of c * size_of b = product (size_of c) 1 (size_of b) some in
    record {
      first = record { some = some; few = omega (arith, most, by_first) };
      second = record { some = some'; few = omega (arith, most, by_second) };
    }
