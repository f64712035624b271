-- The tail of the process of the next entry.
use Rattle.std.proofs.Common.{◌≡◌, ◌⊎◌, inl, inr, ℕ, zero, suc, ◌+◌, ◌-◌, ◌≤◌, Bool, true, false, List, [], ◌∷◌, ◌++◌, length, refl, sym, ap, ◌∙◌, subst, arith}
use Rattle.std.specs.Prelude.{if◌then◌else◌, nat_eq, sum, replicate}
use Rattle.std.proofs.Math.Decide.{ℕ_discrete}
use Rattle.std.proofs.lemmas.List.Sums.{sum_by-cons}
use Rattle.b67_machine.specs.Kept.{operators_counted}
use Rattle.b67_machine.specs.Replaying.{tails_of, tail_of}
use Rattle.b67_stands.proofs.Counts.{has_some}
use Rattle.b67_explain.proofs.Summing.{from_on, from_on_one, from_on_zero, from_on_equal, has_none}

-- there is no tail, or the process of the next entry is one of so many
abbrev pub IsTailOf : ℕ → List ℕ → ℕ → Type 0
IsTailOf n [] tail = tail ≡ 0
IsTailOf n (q ∷ left) tail = (tail ≡ 0) ⊎ ((1 ≤ q) × (q ≤ n))

next_number : (p k n : ℕ) → (if nat_eq p k then n else 0) ≡ (if nat_eq (suc p) (suc k) then n else 0)
next_number p k n = by (ℕ_discrete p k)
  where
    by : Dec (p ≡ k) → (if nat_eq p k then n else 0) ≡ (if nat_eq (suc p) (suc k) then n else 0)
    by (yes e) = has_some n p k e ∙ sym (has_some n (suc p) (suc k) (ap suc e))
    by (no h) = has_none n p k h ∙ sym (has_none n (suc p) (suc k) (λ e. h (omega (arith, e))))

-- the last number after so many zeros
at_end : (k n p : ℕ) → operators_counted (replicate k 0 ++ n ∷ []) (suc p) ≡ (if nat_eq (suc p) (suc k) then n else 0)
at_end zero n zero = sym (has_some n 1 1 refl)
at_end zero n (suc p) = sym (has_none n (suc (suc p)) 1 (λ e. omega (arith, e)))
at_end (suc k) n zero = sym (has_none n 1 (suc (suc k)) (λ e. omega (arith, e)))
at_end (suc k) n (suc p) = at_end k n p ∙ next_number (suc p) (suc k) n

zeros : (k p : ℕ) → operators_counted (replicate k 0 ++ 0 ∷ []) p ≡ 0
zeros k zero = refl
zeros zero (suc zero) = refl
zeros zero (suc (suc p)) = refl
zeros (suc k) (suc zero) = refl
zeros (suc k) (suc (suc p)) = zeros k (suc p)

no_tail : (b : Bool) → ◌≡◌ {A = ℕ} (if b then 0 else 0) 0
no_tail true = refl
no_tail false = refl

-- a process's tail is its number in the list of tails
pub tail_counted : (n p : ℕ) (left : List ℕ) (tail : ℕ) → 1 ≤ p → IsTailOf n left tail → operators_counted (tails_of left tail) p ≡ tail_of left tail p
tail_counted n zero left tail one is = absurd (omega (arith, one))
tail_counted n (suc p) [] tail one is = refl
tail_counted n (suc p) (q ∷ left) tail one (inl none) =
    subst (λ (t : ℕ). operators_counted (tails_of (q ∷ left) t) (suc p) ≡ tail_of (q ∷ left) t (suc p)) (sym none)
    (zeros (q - 1) (suc p) ∙ sym (no_tail (nat_eq (suc p) q)))
tail_counted n (suc p) (zero ∷ left) tail one (inr there) = absurd (omega (arith, there.0))
tail_counted n (suc p) (suc q ∷ left) tail one (inr there) =
    subst (λ (k : ℕ). operators_counted (replicate k 0 ++ tail ∷ []) (suc p) ≡ tail_of (suc q ∷ left) tail (suc p)) (same q) (at_end q tail p)
  where
    same : (q : ℕ) → q ≡ suc q - 1
    same q = omega arith

-- the tails of so many processes come to the one tail
pub tail_sum : (n : ℕ) (left : List ℕ) (tail : ℕ) → IsTailOf n left tail → from_on (tail_of left tail) 1 n ≡ tail
tail_sum n [] tail is = from_on_zero n ∙ sym is
tail_sum n (q ∷ left) tail (inl none) =
    from_on_equal (tail_of (q ∷ left) tail) (λ p. 0) n
    (λ p a b. subst (λ (t : ℕ). tail_of (q ∷ left) t p ≡ 0) (sym none) (no_tail (nat_eq p q)))
    ∙ from_on_zero n ∙ sym none
tail_sum n (q ∷ left) tail (inr there) = from_on_one q tail 1 n there.0 (omega (arith, there.1))

pub sum_zeros : (k n : ℕ) → sum (replicate k 0 ++ n ∷ []) ≡ n
sum_zeros zero n = let s = sum_by-cons (λ x. x) n [] in omega (arith, s)
sum_zeros (suc k) n = let s = sum_by-cons (λ x. x) 0 (replicate k 0 ++ n ∷ []) in omega (arith, s, sum_zeros k n)

-- the list of tails adds up to the one tail, and is no longer than there are processes
pub sum_tails : (q : ℕ) (left : List ℕ) (tail : ℕ) → sum (tails_of (q ∷ left) tail) ≡ tail
sum_tails q left tail = sum_zeros (q - 1) tail

length_tails : (k n : ℕ) → length (replicate k 0 ++ n ∷ []) ≡ k + 1
length_tails zero n = refl
length_tails (suc k) n = let rest = length_tails k n in omega (arith, rest)

pub tails_are_few : (n q : ℕ) (left : List ℕ) (tail : ℕ) → 1 ≤ q → q ≤ n → length (tails_of (q ∷ left) tail) ≤ n
tails_are_few n q left tail one most = let l = length_tails (q - 1) tail in omega (arith, l, one, most)
