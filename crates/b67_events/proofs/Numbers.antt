-- How often a process stands among numbers, and how many numbers there can be.
use Rattle.std.proofs.Common.{◌≡◌, ℕ, zero, suc, ◌+◌, ◌*◌, ◌≤◌, Bool, true, false, cond, not, eqb, List, [], ◌∷◌, ◌++◌, length, map, refl, sym, ap, ◌∙◌, subst, inl, inr, arith}
use Rattle.std.specs.Prelude.{filter}
use Rattle.std.specs.List.{list_any}
use Rattle.std.proofs.lemmas.Bool.{cases_Bool, cond-true, cond-false, both_ways, eqb-true, eq-eqb, not_from_true, not_from_false, or_parts}
use Rattle.b67_events.specs.Kept.{without_first}
use Rattle.b67_events.specs.Once.{times_in}

-- each is from 1 to n
abbrev pub AreFrom : ℕ → List ℕ → Type 0
AreFrom n [] = Unit {0}
AreFrom n (p ∷ ps) = (1 ≤ p) × (p ≤ n) × AreFrom n ps

abbrev pub one_if : Bool → ℕ
one_if b = cond b 1 0

pub times_join : (p : ℕ) (xs ys : List ℕ) → times_in p (xs ++ ys) ≡ times_in p xs + times_in p ys
times_join p [] ys = omega arith
times_join p (x ∷ xs) ys = let rest = times_join p xs ys in omega arith

pub from_join : (n : ℕ) (xs ys : List ℕ) → AreFrom n xs → AreFrom n ys → AreFrom n (xs ++ ys)
from_join n [] ys h k = k
from_join n (x ∷ xs) ys h k = (h.0, h.1, from_join n xs ys h.2 k)

-- the others than one
abbrev others : ℕ → List ℕ → List ℕ
others m xs = filter (λ q. not (eqb m q)) xs

goes : (m x : ℕ) (xs : List ℕ) → eqb m x ≡ true → others m (x ∷ xs) ≡ others m xs
goes m x xs e = cond-false (not (eqb m x)) (x ∷ others m xs) (others m xs) (not_from_true (eqb m x) e)

stays : (m x : ℕ) (xs : List ℕ) → eqb m x ≡ false → others m (x ∷ xs) ≡ x ∷ others m xs
stays m x xs e = cond-true (not (eqb m x)) (x ∷ others m xs) (others m xs) (not_from_false (eqb m x) e)

parted : (m : ℕ) (xs : List ℕ) → length xs ≡ times_in m xs + length (others m xs)
parted m [] = refl
parted m (x ∷ xs) =
    let rest = parted m xs in
    elim (cases_Bool (eqb m x)) [
      | inl e ↦
          let head : one_if (eqb m x) ≡ 1 = cond-true (eqb m x) 1 0 e in
          let same : length (others m (x ∷ xs)) ≡ length (others m xs) = ap length (goes m x xs e) in
          omega arith
      | inr e ↦
          let head : one_if (eqb m x) ≡ 0 = cond-false (eqb m x) 1 0 e in
          let same : length (others m (x ∷ xs)) ≡ length (others m xs) + 1 = ap length (stays m x xs e) ∙ omega arith in
          omega arith
    ]

fewer : (m p : ℕ) (xs : List ℕ) → times_in p (others m xs) ≤ times_in p xs
fewer m p [] = omega arith
fewer m p (x ∷ xs) =
    let rest = fewer m p xs in
    elim (cases_Bool (eqb m x)) [
      | inl e ↦ let is : times_in p (others m (x ∷ xs)) ≡ times_in p (others m xs) = ap (times_in p) (goes m x xs e) in omega arith
      | inr e ↦ let is : times_in p (others m (x ∷ xs)) ≡ times_in p (x ∷ others m xs) = ap (times_in p) (stays m x xs e) in omega arith
    ]

below : (n : ℕ) (xs : List ℕ) → AreFrom (suc n) xs → AreFrom n (others (suc n) xs)
below n [] h = tt
below n (x ∷ xs) h =
    let rest = below n xs h.2 in
    elim (cases_Bool (eqb (suc n) x)) [
      | inl e ↦ subst (AreFrom n) (sym (goes (suc n) x xs e)) rest
      | inr e ↦
          let top : x ≤ suc n = h.1 in
          let other : suc n ≡ x → ⊥ = λ k. both_ways (eqb (suc n) x) e (eq-eqb (suc n) x k) in
          let less : x ≤ n = omega (arith, other) in
          subst (AreFrom n) (sym (stays (suc n) x xs e)) (h.0, less, rest)
    ]

-- where each of n stands k times_in at most, there are no more than n times_in k
pub times_bound : (n k : ℕ) (xs : List ℕ) → AreFrom n xs → ((p : ℕ) → times_in p xs ≤ k) → length xs ≤ n * k
times_bound zero k [] h few = omega arith
times_bound zero k (x ∷ xs) h few = let low : 1 ≤ x = h.0 in let top : x ≤ 0 = h.1 in absurd (omega arith)
times_bound (suc n) k xs h few =
    let rest : length (others (suc n) xs) ≤ n * k =
    times_bound n k (others (suc n) xs) (below n xs h) (λ p. let less = fewer (suc n) p xs in let most = few p in omega arith) in
    let all = parted (suc n) xs in
    let most = few (suc n) in
    omega arith

-- a process so many times
abbrev again : ℕ → ℕ → List ℕ
again zero p = []
again (suc k) p = p ∷ again k p

again_length : (k p : ℕ) → length (again k p) ≡ k
again_length zero p = refl
again_length (suc k) p = let rest = again_length k p in omega arith

again_from : (n k p : ℕ) → 1 ≤ p → p ≤ n → AreFrom n (again k p)
again_from n zero p low high = tt
again_from n (suc k) p low high = (low, high, again_from n k p low high)

again_times : (k p q : ℕ) → times_in q (again k p) ≤ k
again_times zero p q = omega arith
again_times (suc k) p q =
    let rest = again_times k p q in
    elim (cases_Bool (eqb q p)) [
      | inl e ↦ let head : one_if (eqb q p) ≡ 1 = cond-true (eqb q p) 1 0 e in omega arith
      | inr e ↦ let head : one_if (eqb q p) ≡ 0 = cond-false (eqb q p) 1 0 e in omega arith
    ]

again_other : (k p q : ℕ) → eqb q p ≡ false → times_in q (again k p) ≡ 0
again_other zero p q e = refl
again_other (suc k) p q e = let rest = again_other k p q e in let head : one_if (eqb q p) ≡ 0 = cond-false (eqb q p) 1 0 e in omega arith

-- where one stands not at all, there is room for it k times
pub times_room : (n k p : ℕ) (xs : List ℕ) → 1 ≤ p → p ≤ n → AreFrom n xs → ((q : ℕ) → times_in q xs ≤ k) → times_in p xs ≡ 0 → length xs + k ≤ n * k
times_room n k p xs low high h few none =
    let all = xs ++ again k p in
    let each : (q : ℕ) → times_in q all ≤ k = λ q.
    let both = times_join q xs (again k p) in
    elim (cases_Bool (eqb q p)) [
      | inl e ↦
          let same : times_in q xs ≡ 0 = ap (λ m. times_in m xs) (eqb-true q p e) ∙ none in
          let most = again_times k p q in omega arith
      | inr e ↦ let other = again_other k p q e in let most = few q in omega arith
    ] in
    let bound = times_bound n k all (from_join n xs (again k p) h (again_from n k p low high)) each in
    let long : length all ≡ length xs + length (again k p) = length-join xs (again k p) in
    let count = again_length k p in
    omega arith
  where
    length-join : (xs ys : List ℕ) → length (xs ++ ys) ≡ length xs + length ys
    length-join [] ys = omega arith
    length-join (x ∷ xs) ys = let rest = length-join xs ys in omega arith

module _ {X : Type 0} (number : X → ℕ) where
  -- who is not among them stands there not at all
  pub times_none : (p : ℕ) (xs : List X) → list_any (λ x. eqb p (number x)) xs ≡ false → times_in p (map number xs) ≡ 0
  times_none p [] h = refl
  times_none p (x ∷ xs) h =
      let parts = or_parts (eqb p (number x)) (list_any (λ y. eqb p (number y)) xs) h in
      let rest = times_none p xs parts.1 in
      let head : one_if (eqb p (number x)) ≡ 0 = cond-false (eqb p (number x)) 1 0 parts.0 in omega arith

  pub times_filter : (p : ℕ) (r : X → Bool) (xs : List X) → times_in p (map number (filter r xs)) ≤ times_in p (map number xs)
  times_filter p r [] = omega arith
  times_filter p r (x ∷ xs) =
      let rest = times_filter p r xs in
      elim (cases_Bool (r x)) [
        | inl e ↦ let is : times_in p (map number (filter r (x ∷ xs))) ≡ times_in p (map number (x ∷ filter r xs)) = ap (λ ys. times_in p (map number ys)) (cond-true (r x) (x ∷ filter r xs) (filter r xs) e) in omega arith
        | inr e ↦ let is : times_in p (map number (filter r (x ∷ xs))) ≡ times_in p (map number (filter r xs)) = ap (λ ys. times_in p (map number ys)) (cond-false (r x) (x ∷ filter r xs) (filter r xs) e) in omega arith
      ]

  pub times_first : (p : ℕ) (r : X → Bool) (xs : List X) → times_in p (map number (without_first r xs)) ≤ times_in p (map number xs)
  times_first p r [] = omega arith
  times_first p r (x ∷ xs) =
      let rest = times_first p r xs in
      elim (cases_Bool (r x)) [
        | inl e ↦ let is : times_in p (map number (without_first r (x ∷ xs))) ≡ times_in p (map number xs) = ap (λ ys. times_in p (map number ys)) (cond-true (r x) xs (x ∷ without_first r xs) e) in omega arith
        | inr e ↦ let is : times_in p (map number (without_first r (x ∷ xs))) ≡ times_in p (map number (x ∷ without_first r xs)) = ap (λ ys. times_in p (map number ys)) (cond-false (r x) xs (x ∷ without_first r xs) e) in omega arith
      ]
