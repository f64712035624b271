-- The operators of a run, by processes and by entries.
use Rattle.std.proofs.Common.{◌≡◌, ◌⊎◌, inl, inr, ℕ, zero, suc, ◌+◌, ◌<◌, ◌≤◌, Bool, List, [], ◌∷◌, length, refl, ap, ◌∙◌, arith}
use Rattle.std.specs.Prelude.{if◌then◌else◌, nat_eq, sum}
use Rattle.std.specs.List.{AllByRecursion}
use Rattle.std.proofs.lemmas.Bool.{ne_eqb}
use Rattle.std.proofs.lemmas.List.Sums.{sum_by-cons}
use Rattle.b67_table.specs.Runs.{count_of}
use Rattle.b67_machine.specs.Kept.{operators_counted}
use Rattle.b67_stands.proofs.Counts.{has_some}
use Rattle.b67_explain.proofs.Naming.{IsOneOf}

-- what so many processes from p on have
abbrev pub from_on : (ℕ → ℕ) → ℕ → ℕ → ℕ
from_on f p zero = 0
from_on f p (suc n) = f p + from_on f (p + 1) n

from_on_same : (f g : ℕ → ℕ) (p n : ℕ) → ((q : ℕ) → p ≤ q → q < p + n → f q ≡ g q) → from_on f p n ≡ from_on g p n
from_on_same f g p zero h = refl
from_on_same f g p (suc n) h =
    let first : f p ≡ g p = h p (omega arith) (omega arith) in
    let rest : from_on f (p + 1) n ≡ from_on g (p + 1) n = from_on_same f g (p + 1) n (λ q a b. h q (omega (arith, a)) (omega (arith, b))) in
    omega (arith, first, rest)

from_on_both : (f g : ℕ → ℕ) (p n : ℕ) → from_on (λ q. f q + g q) p n ≡ from_on f p n + from_on g p n
from_on_both f g p zero = refl
from_on_both f g p (suc n) = let rest = from_on_both f g (p + 1) n in omega (arith, rest)

from_on_none : (p n : ℕ) → from_on (λ q. 0) p n ≡ 0
from_on_none p zero = refl
from_on_none p (suc n) = let rest = from_on_none (p + 1) n in omega (arith, rest)

-- one process only has some
pub has_none : (c p k : ℕ) → (p ≡ k → ⊥) → (if nat_eq p k then c else 0) ≡ 0
has_none c p k h = ap (λ (b : Bool). if b then c else 0) (ne_eqb p k h)

from_on_other : (k c p n : ℕ) → k < p → from_on (λ q. if nat_eq q k then c else 0) p n ≡ 0
from_on_other k c p zero h = refl
from_on_other k c p (suc n) h =
    let first = has_none c p k (λ e. omega (arith, e, h)) in
    let rest = from_on_other k c (p + 1) n (omega (arith, h)) in
    omega (arith, first, rest)

compare : (p k : ℕ) → p ≤ k → (p ≡ k) ⊎ (p < k)
compare zero zero a = inl refl
compare zero (suc k) a = inr (omega arith)
compare (suc p) zero a = absurd (omega (arith, a))
compare (suc p) (suc k) a = next (compare p k (omega (arith, a)))
  where
    next : (p ≡ k) ⊎ (p < k) → (suc p ≡ suc k) ⊎ (suc p < suc k)
    next (inl e) = inl (ap suc e)
    next (inr h) = inr (omega (arith, h))

from_here_on : (k c p rest : ℕ) → (p ≡ k) ⊎ (p < k) → (p ≡ k → rest ≡ 0) → (p < k → rest ≡ c) → (if nat_eq p k then c else 0) + rest ≡ c
from_here_on k c p rest (inl e) none one = omega (arith, has_some c p k e, none e)
from_here_on k c p rest (inr h) none one = omega (arith, has_none c p k (λ e. omega (arith, e, h)), one h)

pub from_on_one : (k c p n : ℕ) → p ≤ k → k < p + n → from_on (λ q. if nat_eq q k then c else 0) p n ≡ c
from_on_one k c p zero a b = absurd (omega (arith, a, b))
from_on_one k c p (suc n) a b =
    from_here_on k c p (from_on (λ q. if nat_eq q k then c else 0) (p + 1) n) (compare p k a)
    (λ e. from_on_other k c (p + 1) n (omega (arith, e)))
    (λ h. from_on_one k c (p + 1) n (omega (arith, h)) (omega (arith, b)))

-- the operators of the entries of processes are all the operators of entries
pub entries_by_process : (n : ℕ) (h counts : List ℕ) → length counts ≡ length h → AllByRecursion (IsOneOf n) h → from_on (λ p. count_of p h counts) 1 n ≡ sum counts
entries_by_process n [] [] l a = from_on_none 1 n
entries_by_process n [] (c ∷ counts) l a = absurd (omega (arith, l))
entries_by_process n (q ∷ h) [] l a = absurd (omega (arith, l))
entries_by_process n (q ∷ h) (c ∷ counts) l a =
    let both = from_on_both (λ p. if nat_eq p q then c else 0) (λ p. count_of p h counts) 1 n in
    let one = from_on_one q c 1 n (omega (arith, a.0.0)) (omega (arith, a.0.1)) in
    let rest = entries_by_process n h counts (omega (arith, l)) a.1 in
    omega (arith, both, one, rest, sum_by-cons (λ x. x) c counts)

-- a list of numbers adds up to what the processes have, where each number is one's
pub sum_by_number : (f : ℕ → ℕ) (xs : List ℕ) → ((p : ℕ) → 1 ≤ p → p ≤ length xs → operators_counted xs p ≡ f p) → sum xs ≡ from_on f 1 (length xs)
sum_by_number f xs h = go 1 xs (λ k w. h (suc k) (omega arith) (omega (arith, w)) ∙ ap f (omega arith))
  where
    go : (p : ℕ) (ys : List ℕ) → ((k : ℕ) → k < length ys → operators_counted ys (suc k) ≡ f (p + k)) → sum ys ≡ from_on f p (length ys)
    go p [] g = refl
    go p (y ∷ ys) g =
        let first : y ≡ f (p + 0) = g 0 (omega arith) in
        let here : f (p + 0) ≡ f p = ap f (omega arith) in
        let rest : sum ys ≡ from_on f (p + 1) (length ys) = go (p + 1) ys (λ k w. g (suc k) (omega (arith, w)) ∙ ap f (omega arith)) in
        omega (arith, first, here, rest, sum_by-cons (λ x. x) y ys)

pub from_on_equal : (f g : ℕ → ℕ) (n : ℕ) → ((p : ℕ) → 1 ≤ p → p ≤ n → f p ≡ g p) → from_on f 1 n ≡ from_on g 1 n
from_on_equal f g n h = from_on_same f g 1 n (λ q a b. h q a (omega (arith, b)))

pub from_on_sum : (f g : ℕ → ℕ) (n : ℕ) → from_on (λ q. f q + g q) 1 n ≡ from_on f 1 n + from_on g 1 n
from_on_sum f g n = from_on_both f g 1 n

pub from_on_zero : (n : ℕ) → from_on (λ q. 0) 1 n ≡ 0
from_on_zero n = from_on_none 1 n
