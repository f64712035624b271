-- More in a tail, and none in it.
use Rattle.std.specs.Prelude.{sum}
use Rattle.std.proofs.Common.{◌≡◌, ◌≢◌, refl, ap, ℕ, zero, suc, ◌+◌, ◌≤◌, ◌<◌, List, [], ◌∷◌, length, arith}
use Rattle.std.proofs.lemmas.List.Sums.{sum_by-cons}
use Rattle.b67_stands.specs.Tails.{more_at, none_at, at_place, with_more, tails_without, tail_of}
use Rattle.b67_stands.proofs.Advancing.{none_there}

-- ---- more in a tail

more_own : (tails : List ℕ) (k n : ℕ) → at_place (more_at tails k n) k ≡ at_place tails k + n
more_own [] zero n = omega arith
more_own [] (suc k) n = more_own [] k n
more_own (t ∷ ts) zero n = refl
more_own (t ∷ ts) (suc k) n = more_own ts k n

more_other : (tails : List ℕ) (k n j : ℕ) → j ≢ k → at_place (more_at tails k n) j ≡ at_place tails j
more_other [] zero n zero h = absurd (h refl)
more_other [] zero n (suc j) h = refl
more_other [] (suc k) n zero h = refl
more_other [] (suc k) n (suc j) h = more_other [] k n j (λ e. h (ap suc e))
more_other (t ∷ ts) zero n zero h = absurd (h refl)
more_other (t ∷ ts) zero n (suc j) h = refl
more_other (t ∷ ts) (suc k) n zero h = refl
more_other (t ∷ ts) (suc k) n (suc j) h = more_other ts k n j (λ e. h (ap suc e))

more_sum : (tails : List ℕ) (k n : ℕ) → sum (more_at tails k n) ≡ sum tails + n
more_sum [] zero n = let s = sum_by-cons (λ (x : ℕ). x) n [] in omega (arith, s)
more_sum [] (suc k) n = let s = sum_by-cons (λ (x : ℕ). x) 0 (more_at [] k n) in let r = more_sum [] k n in omega (arith, s, r)
more_sum (t ∷ ts) zero n =
    let s = sum_by-cons (λ (x : ℕ). x) (t + n) ts in let u = sum_by-cons (λ (x : ℕ). x) t ts in omega (arith, s, u)
more_sum (t ∷ ts) (suc k) n =
    let s = sum_by-cons (λ (x : ℕ). x) t (more_at ts k n) in
    let u = sum_by-cons (λ (x : ℕ). x) t ts in
    let r = more_sum ts k n in
    omega (arith, s, u, r)

more_length : (tails : List ℕ) (k n m : ℕ) → length tails ≤ m → k < m → length (more_at tails k n) ≤ m
more_length [] zero n m h l = omega (arith, l)
more_length [] (suc k) n zero h l = absurd (omega (arith, l))
more_length [] (suc k) n (suc m) h l = let r = more_length [] k n m (omega arith) (omega (arith, l)) in omega (arith, r)
more_length (t ∷ ts) zero n m h l = omega (arith, h)
more_length (t ∷ ts) (suc k) n zero h l = absurd (omega (arith, l))
more_length (t ∷ ts) (suc k) n (suc m) h l = let r = more_length ts k n m (omega (arith, h)) (omega (arith, l)) in omega (arith, r)

-- ---- none in a tail

none_other : (tails : List ℕ) (k j : ℕ) → j ≢ k → at_place (none_at tails k) j ≡ at_place tails j
none_other [] k j h = refl
none_other (t ∷ ts) zero zero h = absurd (h refl)
none_other (t ∷ ts) zero (suc j) h = refl
none_other (t ∷ ts) (suc k) zero h = refl
none_other (t ∷ ts) (suc k) (suc j) h = none_other ts k j (λ e. h (ap suc e))

none_sum : (tails : List ℕ) (k : ℕ) → sum (none_at tails k) + at_place tails k ≡ sum tails
none_sum [] k = refl
none_sum (t ∷ ts) zero =
    let s = sum_by-cons (λ (x : ℕ). x) 0 ts in let u = sum_by-cons (λ (x : ℕ). x) t ts in omega (arith, s, u)
none_sum (t ∷ ts) (suc k) =
    let s = sum_by-cons (λ (x : ℕ). x) t (none_at ts k) in
    let u = sum_by-cons (λ (x : ℕ). x) t ts in
    let r = none_sum ts k in
    omega (arith, s, u, r)

none_length : (tails : List ℕ) (k : ℕ) → length (none_at tails k) ≡ length tails
none_length [] k = refl
none_length (t ∷ ts) zero = refl
none_length (t ∷ ts) (suc k) = let r = none_length ts k in omega (arith, r)

-- ---- by the processes' numbers

pub tail_more_own : (tails : List ℕ) (p n : ℕ) → 1 ≤ p → tail_of (with_more tails p n) p ≡ tail_of tails p + n
tail_more_own tails zero n h = absurd (omega (arith, h))
tail_more_own tails (suc k) n h = more_own tails k n

pub tail_more_other : (tails : List ℕ) (p n q : ℕ) → q ≢ p → tail_of (with_more tails p n) q ≡ tail_of tails q
tail_more_other tails zero n q h = refl
tail_more_other tails (suc k) n zero h = refl
tail_more_other tails (suc k) n (suc j) h = more_other tails k n j (λ e. h (ap suc e))

pub sum_more : (tails : List ℕ) (p n : ℕ) → 1 ≤ p → sum (with_more tails p n) ≡ sum tails + n
sum_more tails zero n h = absurd (omega (arith, h))
sum_more tails (suc k) n h = more_sum tails k n

pub length_more : (tails : List ℕ) (p n m : ℕ) → length tails ≤ m → p ≤ m → length (with_more tails p n) ≤ m
length_more tails zero n m h l = h
length_more tails (suc k) n m h l = more_length tails k n m h (omega (arith, l))

pub tail_without_own : (tails : List ℕ) (p : ℕ) → tail_of (tails_without tails p) p ≡ 0
tail_without_own tails zero = refl
tail_without_own tails (suc k) = none_there tails k

pub tail_without_other : (tails : List ℕ) (p q : ℕ) → q ≢ p → tail_of (tails_without tails p) q ≡ tail_of tails q
tail_without_other tails zero q h = refl
tail_without_other tails (suc k) zero h = refl
tail_without_other tails (suc k) (suc j) h = none_other tails k j (λ e. h (ap suc e))

pub sum_without : (tails : List ℕ) (p : ℕ) → sum (tails_without tails p) + tail_of tails p ≡ sum tails
sum_without tails zero = omega arith
sum_without tails (suc k) = none_sum tails k

pub length_without : (tails : List ℕ) (p : ℕ) → length (tails_without tails p) ≡ length tails
length_without tails zero = refl
length_without tails (suc k) = none_length tails k

-- no process has more than there are
pub tail_most : (tails : List ℕ) (p : ℕ) → tail_of tails p ≤ sum tails
tail_most tails p = let s = sum_without tails p in omega (arith, s)
