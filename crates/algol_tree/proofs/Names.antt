-- Names that are the same.
use Rattle.std.proofs.Common.{Bool, List, [], ap, arith, false, nat_eq, refl, true, ℕ, ◌&&◌, ◌∙◌, ◌∷◌, ◌≡◌}
use Rattle.std.proofs.lemmas.Bool.Decides.{nat_tests}
use Rattle.std.specs.Prelude.{◌==◌}
use Rattle.std.specs.Str.{bytes_eq}
use Rattle.algol_tree.specs.Sorts.{same_name}

pub same_name_is : (m n : List ℕ) → same_name m n ≡ true → m ≡ n
same_name_is [] [] e = refl
same_name_is [] (b ∷ n) e = let wrong : false ≡ true = e in cc
same_name_is (a ∷ m) [] e = let wrong : false ≡ true = e in cc
same_name_is (a ∷ m) (b ∷ n) e = by_first (nat_eq a b) refl e (same_name_is m n)
  where
    by_first : (x : Bool) → nat_eq a b ≡ x → (x && same_name m n) ≡ true → (same_name m n ≡ true → m ≡ n) → a ∷ m ≡ b ∷ n
    by_first true p q rest =
        let head : a ≡ b = grind (arith, nat_tests, p) in
        ap (λ (x : ℕ). x ∷ m) head ∙ ap (λ (xs : List ℕ). b ∷ xs) (rest q)
    by_first false p q rest = let wrong : false ≡ true = q in cc

pub same_name_itself : (n : List ℕ) → same_name n n ≡ true
same_name_itself [] = refl
same_name_itself (a ∷ n) = let here : nat_eq a a ≡ true = grind (arith, nat_tests) in rw here (same_name_itself n)

pub bytes_same_name : (xs ys : List ℕ) → bytes_eq xs ys ≡ same_name xs ys
bytes_same_name [] [] = refl
bytes_same_name [] (y ∷ ys) = refl
bytes_same_name (x ∷ xs) [] = refl
bytes_same_name (x ∷ xs) (y ∷ ys) = ap (λ b. (x == y) && b) (bytes_same_name xs ys)
