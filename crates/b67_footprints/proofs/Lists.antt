-- What holds of each word of a list, and of those that are taken from a stack.
use Rattle.std.proofs.Common.{◌≡◌, refl, sym, subst, ℕ, zero, suc, ◌≤◌, List, [], ◌∷◌, ◌++◌, take, drop, Some, arith}
use Rattle.std.specs.Prelude.{slice_get, reverse}
use Rattle.std.proofs.lemmas.List.{reverse-append}

abbrev pub Each : {A : Type 0} → (A → Type 0) → List A → Type 0
Each P [] = Unit {0}
Each P (x ∷ xs) = P x × Each P xs

pub each_map : {A : Type 0} (P Q : A → Type 0) → ((x : A) → P x → Q x) → (xs : List A) → Each P xs → Each Q xs
each_map P Q f [] e = tt
each_map P Q f (x ∷ xs) e = (f x e.0, each_map P Q f xs e.1)

pub each_take : {A : Type 0} (P : A → Type 0) (n : ℕ) (xs : List A) → Each P xs → Each P (take n xs)
each_take P zero [] e = tt
each_take P zero (x ∷ xs) e = tt
each_take P (suc n) [] e = tt
each_take P (suc n) (x ∷ xs) e = (e.0, each_take P n xs e.1)

pub each_drop : {A : Type 0} (P : A → Type 0) (n : ℕ) (xs : List A) → Each P xs → Each P (drop n xs)
each_drop P zero [] e = tt
each_drop P zero (x ∷ xs) e = e
each_drop P (suc n) [] e = tt
each_drop P (suc n) (x ∷ xs) e = each_drop P n xs e.1

-- the item lies in the list, at this place or after it
pub record LiesFrom {A : Type 0} (xs : List A) (from : ℕ) (x : A) : Type 0 where
  pub at : ℕ
  pub after : from ≤ at
  pub is : slice_get xs at ≡ Some x

pub each_lies : {A : Type 0} (xs : List A) → Each (LiesFrom xs 0) xs
each_lies [] = tt
each_lies (x ∷ xs) = (
  record { at = 0; after = omega arith; is = refl },
  each_map (LiesFrom xs 0) (LiesFrom (x ∷ xs) 0) (λ y k. record { at = suc k.at; after = omega arith; is = k.is }) xs (each_lies xs),
)

pub each_after : {A : Type 0} (n : ℕ) (xs : List A) → Each (LiesFrom xs n) (drop n xs)
each_after zero [] = tt
each_after zero (x ∷ xs) = each_lies (x ∷ xs)
each_after (suc n) [] = tt
each_after (suc n) (x ∷ xs) =
    each_map (LiesFrom xs n) (LiesFrom (x ∷ xs) (suc n)) (λ y k. record { at = suc k.at; after = omega (arith, k.after); is = k.is }) (drop n xs) (each_after n xs)

pub each_both : {A : Type 0} (P : A → Type 0) (xs ys : List A) → Each P xs → Each P ys → Each P (xs ++ ys)
each_both P [] ys a b = b
each_both P (x ∷ xs) ys a b = (a.0, each_both P xs ys a.1 b)

pub each_turned : {A : Type 0} (P : A → Type 0) (xs : List A) → Each P xs → Each P (reverse xs)
each_turned P [] a = tt
each_turned P (x ∷ xs) a = subst (Each P) (sym (reverse-append (x ∷ []) xs)) (each_both P (reverse xs) (x ∷ []) (each_turned P xs a.1) (a.0, tt))

pub each_at : {A : Type 0} (P : A → Type 0) (xs : List A) (n : ℕ) (x : A) → Each P xs → slice_get xs n ≡ Some x → P x
each_at P [] n x a e = cc
each_at P (y ∷ xs) zero x a e = let same : y ≡ x = cc in subst P same a.0
each_at P (y ∷ xs) (suc n) x a e = each_at P xs n x a.1 e
