-- Laws of numbers of which a greater one is the greatest.
use Rattle.std.proofs.Common.{arith, ◌≡◌, ℕ, zero, suc, ◌+◌, ◌*◌, ◌-◌, ◌^◌, ◌≤◌, ◌<◌, min, Bool, true, false, nat_le, List, [], ◌∷◌, refl, ◌∙◌, sym, ap, lit<}
use Rattle.std.proofs.lemmas.Bool.Decides.{nat_tests}
use Rattle.std.proofs.Math.Nat.{le-mul_of_pos_right, mul_comm}
use Rattle.algol_meaning.specs.Value.{Bounds}
use Rattle.algol_meaning.specs.Arrays.{size_of, flat}
use Rattle.algol_instances.specs.SeenArray.{capped}
use Rattle.algol_instances.specs.Counting.{Adjusts}

module _ (m : ℕ) (positive : 0 < m) where
  both : (a b : ℕ) → a ≤ m → b ≤ m → min (min a m * min b m) m ≡ min (a * b) m
  both a b p q =
      let e : min a m ≡ a = omega arith in
      let f : min b m ≡ b = omega arith in rw (e, f) refl

  great : (a b : ℕ) → m < a → min (min a m * min b m) m ≡ min (a * b) m
  great a zero p = let z : min zero m ≡ 0 = omega arith in rw z (omega arith)
  great a (suc b) p =
      let e : min a m ≡ m = omega arith in
      let one : 0 < min (suc b) m = omega arith in
      let big : m ≤ m * min (suc b) m = le-mul_of_pos_right m one in
      let some : 0 < suc b = omega arith in
      let more : a ≤ a * suc b = le-mul_of_pos_right a some in
      rw e (above (m * min (suc b) m) (a * suc b) big (omega arith))
    where
      above : (x y : ℕ) → m ≤ x → m ≤ y → min x m ≡ min y m
      above x y big more = omega arith

  times : (a b : ℕ) → min (min a m * min b m) m ≡ min (a * b) m
  times a b = by (nat_le a m) (nat_le b m) refl refl
    where
      by : (x y : Bool) → nat_le a m ≡ x → nat_le b m ≡ y → min (min a m * min b m) m ≡ min (a * b) m
      by true true p q = both a b (grind (arith, nat_tests, p)) (grind (arith, nat_tests, q))
      by false y p q = great a b (grind (arith, nat_tests, p))
      by true false p q =
          ap (λ (x : ℕ). min x m) (mul_comm (min a m) (min b m)) ∙ great b a (grind (arith, nat_tests, q)) ∙ ap (λ (x : ℕ). min x m) (mul_comm b a)

pub capped_mul : (a b : ℕ) → min (capped a * capped b) (2 ^ 64 - 1) ≡ capped (a * b)
capped_mul a b = times (2 ^ 64 - 1) (lit< tt) a b

capped_again : (b : ℕ) → capped (capped b) ≡ capped b
capped_again b = omega arith

pub capped_half : (a b : ℕ) → capped (a * capped b) ≡ capped (a * b)
capped_half a b = sym (capped_mul a (capped b)) ∙ ap (λ (x : ℕ). min (capped a * x) (2 ^ 64 - 1)) (capped_again b) ∙ capped_mul a b

capped_along : (a b s k : ℕ) → capped a ≡ capped b → capped (a * s + k) ≡ capped (b * s + k)
capped_along a b s k e =
    let x : capped (a * s) ≡ capped (b * s) =
    sym (capped_mul a s) ∙ ap (λ (n : ℕ). min (n * capped s) (2 ^ 64 - 1)) e ∙ capped_mul b s in
    more (a * s) (b * s) x
  where
    more : (u v : ℕ) → capped u ≡ capped v → capped (u + k) ≡ capped (v + k)
    more u v x = omega arith

flat_along : (bs : List Bounds) (ks : List ℕ) (a b : ℕ) → capped a ≡ capped b → capped (flat a bs ks) ≡ capped (flat b bs ks)
flat_along [] [] a b e = e
flat_along [] (k ∷ ks) a b e = e
flat_along (x ∷ bs) [] a b e = e
flat_along (x ∷ bs) (k ∷ ks) a b e = flat_along bs ks (a * size_of x + k) (b * size_of x + k) (capped_along a b (size_of x) k e)

pub flat_next :
    (before s k : ℕ) (bs : List Bounds) (ks : List ℕ)
    → capped (flat (capped (capped (before * capped s) + k)) bs ks) ≡ capped (flat (before * s + k) bs ks)
flat_next before s k bs ks =
    flat_along bs ks (capped (capped (before * capped s) + k)) (before * s + k)
    (rw (capped_half before s) (last (before * s)))
  where
    last : (u : ℕ) → capped (capped (capped u + k)) ≡ capped (u + k)
    last u = omega arith

pub ruleset capping = (capped_mul, flat_next)

-- a sum that has come so far, and one more
pub capped_more : (so_far one others : ℕ) → capped (min (so_far + capped one) (2 ^ 64 - 1) + others) ≡ capped (so_far + (one + others))
capped_more so_far one others = omega arith

pub ruleset adding = capped_more

-- what lived, what is gone and what has come make what lives now, where they are not too great together
pub adjusted_so :
    (lived gone come now : ℕ) → Adjusts lived gone come now → min (lived + come) (2 ^ 64 - 1) < 2 ^ 64 - 1 → min (lived + come) (2 ^ 64 - 1) - gone ≡ capped now
adjusted_so lived gone come now a l =
    let e = a.lived_is in
    let f = a.gone_is in
    let g = a.come_is in
    let h = a.now_is in omega arith

pub adjusted_fits : (lived gone come now : ℕ) → Adjusts lived gone come now → min (lived + come) (2 ^ 64 - 1) < 2 ^ 64 - 1 → gone ≤ min (lived + come) (2 ^ 64 - 1)
adjusted_fits lived gone come now a l =
    let e = a.lived_is in
    let f = a.gone_is in
    let g = a.come_is in
    let h = a.now_is in omega arith

pub ruleset adjusting = (adjusted_so, adjusted_fits)
