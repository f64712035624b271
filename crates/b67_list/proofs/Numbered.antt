-- Lists whose elements have the numbers from one on.
use Rattle.std.proofs.Common.{List, Some, [], ap, refl, suc, sym, zero, ℕ, ◌∷◌, ◌≡◌}
use Rattle.b67_list.specs.Numbered.{numbered, set_numbered}

pub numbered_twice : {A : Type 0} (xs : List A) (n : ℕ) (x y : A) → set_numbered (set_numbered xs n x) n y ≡ set_numbered xs n y
numbered_twice [] zero x y = refl
numbered_twice [] (suc k) x y = refl
numbered_twice (z ∷ xs) zero x y = refl
numbered_twice (z ∷ xs) (suc zero) x y = refl
numbered_twice (z ∷ xs) (suc (suc k)) x y = ap (λ (r : _). z ∷ r) (numbered_twice xs (suc k) x y)

pub numbered_set : {A : Type 0} (xs : List A) (n : ℕ) (y z : A) → numbered xs n ≡ Some y → numbered (set_numbered xs n z) n ≡ Some z
numbered_set xs zero y z e = cc
numbered_set [] (suc k) y z e = cc
numbered_set (x ∷ xs) (suc zero) y z e = refl
numbered_set (x ∷ xs) (suc (suc k)) y z e = numbered_set xs (suc k) y z e

pub numbered_same : {A : Type 0} (xs : List A) (n : ℕ) (x : A) → numbered xs n ≡ Some x → set_numbered xs n x ≡ xs
numbered_same [] zero x e = refl
numbered_same [] (suc k) x e = refl
numbered_same (y ∷ xs) zero x e = refl
numbered_same (y ∷ xs) (suc zero) x e = let p : y ≡ x = cc in ap (λ (z : _). z ∷ xs) (sym p)
numbered_same (y ∷ xs) (suc (suc k)) x e = ap (λ (z : _). y ∷ z) (numbered_same xs (suc k) x e)
