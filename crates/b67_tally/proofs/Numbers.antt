-- The numbers of a tally.
use Rattle.std.proofs.Common.{◌≡◌, refl, ap, ℕ, zero, suc, ◌+◌, List, [], ◌∷◌, Some, arith}
use Rattle.std.specs.Prelude.{slice_get, slice_set}

-- a number that is raised by nothing
pub same_number : (xs : List ℕ) (i n : ℕ) → slice_get xs i ≡ Some n → slice_set xs i (n + 0) ≡ xs
same_number [] i n h = refl
same_number (x ∷ xs) zero n h = let is : x ≡ n = cc in let same : n + 0 ≡ x = omega (arith, is) in ap (λ (y : ℕ). y ∷ xs) same
same_number (x ∷ xs) (suc i) n h = ap (λ (ys : List ℕ). x ∷ ys) (same_number xs i n h)
