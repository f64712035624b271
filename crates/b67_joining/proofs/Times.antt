-- How often a process stands in a list.
use Rattle.std.proofs.Common.{◌≡◌, ◌≢◌, refl, ap, ℕ, zero, suc, ◌+◌, ◌≤◌, ◌<◌, ◌==◌, Bool, true, false, List, [], ◌∷◌, ◌++◌, length, arith}
use Rattle.std.proofs.Math.Decide.{ℕ_discrete}
use Rattle.std.proofs.lemmas.Bool.{eq-eqb, ne_eqb}
use Rattle.b67_action.specs.Able.{number_times, one_if}

pub here : (q p : ℕ) → q ≡ p → one_if (q == p) ≡ 1
here q p e = ap one_if (eq-eqb q p e)

pub elsewhere : (q p : ℕ) → q ≢ p → one_if (q == p) ≡ 0
elsewhere q p h = ap one_if (ne_eqb q p h)

pub one_at_most : (b : Bool) → one_if b ≤ 1
one_at_most true = omega arith
one_at_most false = omega arith

pub is_none : (b : Bool) → one_if b ≡ 0 → b ≡ false
is_none true e = absurd (omega (arith, e))
is_none false e = refl

pub is_one : (b : Bool) → 1 ≤ one_if b → b ≡ true
is_one true h = refl
is_one false h = absurd (omega (arith, h))

pub times_both : (q : ℕ) (xs ys : List ℕ) → number_times q (xs ++ ys) ≡ number_times q xs + number_times q ys
times_both q [] ys = omega arith
times_both q (x ∷ xs) ys = let rest = times_both q xs ys in omega (arith, rest)

pub times_most : (q : ℕ) (xs : List ℕ) → number_times q xs ≤ length xs
times_most q [] = omega arith
times_most q (x ∷ xs) = let rest = times_most q xs in omega (arith, rest, one_at_most (q == x))

-- ---- what a test keeps

-- ---- the process that was started

-- ---- lists in which each number stands once at most

abbrev total : (ℕ → ℕ) → ℕ → ℕ
total f zero = 0
total f (suc n) = total f n + f (suc n)

total_both : (f g : ℕ → ℕ) (n : ℕ) → total (λ q. f q + g q) n ≡ total f n + total g n
total_both f g zero = refl
total_both f g (suc n) = let rest = total_both f g n in omega (arith, rest)

total_above : (x n : ℕ) → n < x → total (λ q. one_if (q == x)) n ≡ 0
total_above x zero h = refl
total_above x (suc n) h =
    let rest = total_above x n (omega (arith, h)) in
    let none = elsewhere (suc n) x (λ e. omega (arith, e, h)) in
    omega (arith, rest, none)

lower : (x n : ℕ) → x ≤ suc n → suc n ≢ x → x ≤ n
lower zero n a b = omega arith
lower (suc x) zero a b = absurd (b (omega (arith, a)))
lower (suc x) (suc n) a b = let rest = lower x n (omega (arith, a)) (λ e. b (ap suc e)) in omega (arith, rest)

one_by : (x n : ℕ) → x ≤ suc n → Dec (suc n ≡ x) → (x ≤ n → total (λ q. one_if (q == x)) n ≡ 1) → total (λ q. one_if (q == x)) n + one_if (suc n == x) ≡ 1
one_by x n h (yes e) below = let rest = total_above x n (omega (arith, e)) in let own = here (suc n) x e in omega (arith, rest, own)
one_by x n h (no g) below = let rest = below (lower x n h g) in let none = elsewhere (suc n) x g in omega (arith, rest, none)

total_one : (x n : ℕ) → 1 ≤ x → x ≤ n → total (λ q. one_if (q == x)) n ≡ 1
total_one x zero o h = absurd (omega (arith, o, h))
total_one x (suc n) o h = one_by x n h (ℕ_discrete (suc n) x) (total_one x n o)

total_most : (f : ℕ → ℕ) (n : ℕ) → ((q : ℕ) → f q ≤ 1) → total f n ≤ n
total_most f zero h = omega arith
total_most f (suc n) h = let rest = total_most f n h in omega (arith, rest, h (suc n))

total_length : (xs : List ℕ) (n : ℕ) → ((q : ℕ) → 1 ≤ number_times q xs → (1 ≤ q) × (q ≤ n)) → total (λ q. number_times q xs) n ≡ length xs
total_length [] zero h = refl
total_length [] (suc n) h = let rest = total_length [] n (λ q l. absurd (omega (arith, l))) in omega (arith, rest)
total_length (x ∷ xs) n h =
    let both = total_both (λ q. one_if (q == x)) (λ q. number_times q xs) n in
    let own = here x x refl in
    let is = h x (omega (arith, own)) in
    let one = total_one x n is.0 is.1 in
    let rest = total_length xs n (λ q l. h q (omega (arith, l))) in
    omega (arith, both, one, rest)

-- there are no more of them than numbers that may stand there
pub few_of : (xs : List ℕ) (n : ℕ) → ((q : ℕ) → number_times q xs ≤ 1) → ((q : ℕ) → 1 ≤ number_times q xs → (1 ≤ q) × (q ≤ n)) → length xs ≤ n
few_of xs n each within = let all = total_length xs n within in omega (arith, all, total_most (λ q. number_times q xs) n each)
