-- Numbers of processes, and lists by number.
use Rattle.std.proofs.Common.{◌≡◌, ◌≢◌, ◌⊎◌, inl, inr, refl, ap, ℕ, zero, suc, ◌<◌, ◌≤◌, List, [], ◌∷◌, length, Some, None, arith}
use Rattle.b67_rows.proofs.Prelude.{slice_get, slice_set, numbered, set_numbered}

pub same_or_not : (p q : ℕ) → (p ≡ q) ⊎ (p ≢ q)
same_or_not zero zero = inl refl
same_or_not zero (suc q) = inr (λ e. cc)
same_or_not (suc p) zero = inr (λ e. cc)
same_or_not (suc p) (suc q) = later (same_or_not p q)
  where
    later : (p ≡ q) ⊎ (p ≢ q) → (suc p ≡ suc q) ⊎ (suc p ≢ suc q)
    later (inl e) = inl (ap suc e)
    later (inr n) = inr (λ e. n (omega (arith, e)))

pub get_set : {A : Type 0} (xs : List A) (k : ℕ) (x y : A) → slice_get xs k ≡ Some x → slice_get (slice_set xs k y) k ≡ Some y
get_set [] k x y e = cc
get_set (z ∷ zs) zero x y e = refl
get_set (z ∷ zs) (suc k) x y e = get_set zs k x y e

get_other : {A : Type 0} (xs : List A) (k j : ℕ) (y : A) → k ≢ j → slice_get (slice_set xs k y) j ≡ slice_get xs j
get_other [] k j y h = refl
get_other (z ∷ zs) zero zero y h = absurd (h refl)
get_other (z ∷ zs) zero (suc j) y h = refl
get_other (z ∷ zs) (suc k) zero y h = refl
get_other (z ∷ zs) (suc k) (suc j) y h = get_other zs k j y (λ e. h (ap suc e))

pub numbered_other : {A : Type 0} (xs : List A) (p q : ℕ) (y : A) → p ≢ q → numbered (set_numbered xs p y) q ≡ numbered xs q
numbered_other xs zero q y h = refl
numbered_other xs (suc k) zero y h = refl
numbered_other xs (suc k) (suc j) y h = get_other xs k j y (λ e. h (ap suc e))

get_beyond : {A B : Type 0} (xs : List A) (ys : List B) (k : ℕ) → length ys ≡ length xs → slice_get xs k ≡ None → slice_get ys k ≡ None
get_beyond [] [] k e n = refl
get_beyond [] (y ∷ ys) k e n = absurd (omega (arith, e))
get_beyond (x ∷ xs) [] k e n = absurd (omega (arith, e))
get_beyond (x ∷ xs) (y ∷ ys) zero e n = cc
get_beyond (x ∷ xs) (y ∷ ys) (suc k) e n = let fewer : length ys ≡ length xs = omega (arith, e) in get_beyond xs ys k fewer n

-- lists of one length have items of the same numbers
pub numbered_beyond : {A B : Type 0} (xs : List A) (ys : List B) (p : ℕ) → length ys ≡ length xs → numbered xs p ≡ None → numbered ys p ≡ None
numbered_beyond xs ys zero e n = refl
numbered_beyond xs ys (suc k) e n = get_beyond xs ys k e n

-- a number is at most another one, or above it
pub most_or_more : (m n : ℕ) → (m ≤ n) ⊎ (n < m)
most_or_more zero n = inl (omega arith)
most_or_more (suc m) zero = inr (omega arith)
most_or_more (suc m) (suc n) = later (most_or_more m n)
  where
    later : (m ≤ n) ⊎ (n < m) → (suc m ≤ suc n) ⊎ (suc n < suc m)
    later (inl h) = inl (omega (arith, h))
    later (inr h) = inr (omega (arith, h))

-- lists by number: what stands there
pub get_within : {A : Type 0} (xs : List A) (k : ℕ) → k < length xs → (x : A) × (slice_get xs k ≡ Some x)
get_within [] k h = absurd (omega (arith, h))
get_within (x ∷ xs) zero h = (x, refl)
get_within (x ∷ xs) (suc k) h = get_within xs k (omega (arith, h))
