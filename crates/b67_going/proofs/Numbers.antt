-- The registers of one process among all.
use Rattle.std.proofs.Common.{◌≡◌, ap, ◌∙◌, ℕ, zero, suc, ◌-◌, ◌<◌, List, [], ◌∷◌, length, get_or, slice_get, slice_set, Some, arith}
use Rattle.b67_list.specs.Numbered.{numbered, set_numbered}
use Rattle.b67_control.specs.declared.Registers.{Registers}
use Rattle.b67_intrinsics.proofs.Pushing.{set_there}

one_less : (k : ℕ) → suc k - 1 ≡ k
one_less k = omega arith

get_within : (xs : List Registers) (k : ℕ) (y : Registers) → slice_get xs k ≡ Some y → k < length xs
get_within [] zero y e = cc
get_within [] (suc k) y e = cc
get_within (x ∷ xs) zero y e = omega arith
get_within (x ∷ xs) (suc k) y e = omega (arith, get_within xs k y e)

get_is : (xs : List Registers) (k : ℕ) (y d : Registers) → slice_get xs k ≡ Some y → get_or xs k d ≡ y
get_is [] zero y d e = cc
get_is [] (suc k) y d e = cc
get_is (x ∷ xs) zero y d e = cc
get_is (x ∷ xs) (suc k) y d e = get_is xs k y d e

module _ (xs : List Registers) (p : ℕ) (y : Registers) where
  pub is_within : numbered xs p ≡ Some y → p - 1 < length xs
  is_within = by p
    where
      by : (p : ℕ) → numbered xs p ≡ Some y → p - 1 < length xs
      by zero e = cc
      by (suc k) e = omega (arith, get_within xs k y e, one_less k)

  pub read_is : (z d : Registers) → numbered xs p ≡ Some y → z ≡ get_or xs (p - 1) d → z ≡ y
  read_is = by p
    where
      by : (p : ℕ) (z d : Registers) → numbered xs p ≡ Some y → z ≡ get_or xs (p - 1) d → z ≡ y
      by zero z d e f = cc
      by (suc k) z d e f = f ∙ ap (λ (i : ℕ). get_or xs i d) (one_less k) ∙ get_is xs k y d e

  pub written_is : (x : Registers) → numbered xs p ≡ Some y → slice_set xs (p - 1) x ≡ set_numbered xs p x
  written_is = by p
    where
      by : (p : ℕ) (x : Registers) → numbered xs p ≡ Some y → slice_set xs (p - 1) x ≡ set_numbered xs p x
      by zero x e = cc
      by (suc k) x e = ap (λ (i : ℕ). slice_set xs i x) (one_less k)

  pub then_there : (x : Registers) → numbered xs p ≡ Some y → numbered (set_numbered xs p x) p ≡ Some x
  then_there = by p
    where
      by : (p : ℕ) (x : Registers) → numbered xs p ≡ Some y → numbered (set_numbered xs p x) p ≡ Some x
      by zero x e = cc
      by (suc k) x e = set_there xs k y x e
