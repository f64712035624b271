-- The tests of the walk down a path, and the order of a stack.
use Rattle.std.proofs.Common.{◌≡◌, ◌⊎◌, ℕ, ◌<◌, ◌≤◌, List, [], ◌∷◌, Option, Some, None, Bool, true, false, refl, ap, ◌∙◌, subst, arith}
use Rattle.std.specs.Prelude.{◌==◌, ◌&&◌}
use Rattle.algol_meaning.specs.Critical.{is_this, process_is_one_of}
use Rattle.b67_list.proofs.Numbers.{number_itself, same_number}
use Rattle.b67_list.proofs.Truths.{or_either, or_left, or_right}
use Rattle.algol_standing.specs.Skeleton.{Home, IsInSkeleton, NextIn, Owned}
use Rattle.algol_standing.proofs.Lists.{some_same}
use Rattle.algol_standing.proofs.Firsts.{below_in}

-- ---- tests

pub and_true : (a b : Bool) → a ≡ true → b ≡ true → (a && b) ≡ true
and_true true b e f = f
and_true false b e f = cc

pub one_of_true : (js : List ℕ) (i : ℕ) → IsInSkeleton js i → process_is_one_of js i ≡ true
one_of_true [] i n = absurd n
one_of_true (j ∷ js) i (◌⊎◌.inl e) = or_left (j == i) (process_is_one_of js i) (subst (λ k. (j == k) ≡ true) e (number_itself j))
one_of_true (j ∷ js) i (◌⊎◌.inr n) = or_right (j == i) (process_is_one_of js i) (one_of_true js i n)

pub one_of_back : (js : List ℕ) (i : ℕ) → process_is_one_of js i ≡ true → IsInSkeleton js i
one_of_back [] i e = cc
one_of_back (j ∷ js) i e = by (or_either (j == i) (process_is_one_of js i) e) (λ f. one_of_back js i f)
  where
    by : ((j == i) ≡ true) ⊎ (process_is_one_of js i ≡ true) → (process_is_one_of js i ≡ true → IsInSkeleton js i) → IsInSkeleton (j ∷ js) i
    by (◌⊎◌.inl f) g = ◌⊎◌.inl (same_number j i f)
    by (◌⊎◌.inr f) g = ◌⊎◌.inr (g f)

pub this_true : (o : Option ℕ) (i : ℕ) → o ≡ Some i → is_this o i ≡ true
this_true o i e = ap (λ c. is_this c i) e ∙ number_itself i

pub this_back : (o : Option ℕ) (i : ℕ) → is_this o i ≡ true → o ≡ Some i
this_back None i e = cc
this_back (Some c) i e = ap Some (same_number c i e)

-- ---- the order of a stack, with its critical instance below

module _ (homes : List Home) (p : ℕ) (c : Option ℕ) where
  pub lower : (own : List ℕ) (a : ℕ) → Owned homes p own → IsInSkeleton own a → (x : ℕ) (xs : List ℕ) → own ≡ x ∷ xs → a ≤ x
  lower [] a o n x xs e = absurd n
  lower (y ∷ own) a o n x xs e = by n
    where
      same : y ≡ x
      same = cc

      by : (y ≡ a) ⊎ IsInSkeleton own a → a ≤ x
      by (◌⊎◌.inl f) = omega (arith, f, same)
      by (◌⊎◌.inr m) = let h = o.3 a m in omega (arith, h, same)

  pub between : (own : List ℕ) (a b : ℕ) → Owned homes p own → ((d i : ℕ) → c ≡ Some d → IsInSkeleton own i → d < i) → NextIn c own a b →
      (b < a) × ((m : ℕ) → IsInSkeleton own m ⊎ (c ≡ Some m) → b < m → m < a → ⊥)
  between [] a b o older n = absurd n
  between (x ∷ []) a b o older n = (let h = older b x n.1 (◌⊎◌.inl refl) in let e = n.0 in omega (arith, h, e), none)
    where
      none : (m : ℕ) → IsInSkeleton (x ∷ []) m ⊎ (c ≡ Some m) → b < m → m < a → ⊥
      none m (◌⊎◌.inl (◌⊎◌.inl e)) g h = let f = n.0 in absurd (omega (arith, e, f, h))
      none m (◌⊎◌.inl (◌⊎◌.inr k)) g h = k
      none m (◌⊎◌.inr e) g h = let f : b ≡ m = some_same n.1 e in absurd (omega (arith, f, g))
  between (x ∷ y ∷ r) a b o older (◌⊎◌.inl n) = (let h = o.3 y (◌⊎◌.inl refl) in let e = n.0 in let f = n.1 in omega (arith, h, e, f), none)
    where
      none : (m : ℕ) → IsInSkeleton (x ∷ y ∷ r) m ⊎ (c ≡ Some m) → b < m → m < a → ⊥
      none m (◌⊎◌.inl (◌⊎◌.inl e)) g h = let f = n.0 in absurd (omega (arith, e, f, h))
      none m (◌⊎◌.inl (◌⊎◌.inr (◌⊎◌.inl e))) g h = let f = n.1 in absurd (omega (arith, e, f, g))
      none m (◌⊎◌.inl (◌⊎◌.inr (◌⊎◌.inr k))) g h = let l = (o.4).3 m k in let f = n.1 in absurd (omega (arith, l, f, g))
      none m (◌⊎◌.inr e) g h = let l = older m y e (◌⊎◌.inr (◌⊎◌.inl refl)) in let f = n.1 in absurd (omega (arith, l, f, g))
  between (x ∷ y ∷ r) a b o older (◌⊎◌.inr n) = up (between (y ∷ r) a b o.4 (λ d i e k. older d i e (◌⊎◌.inr k)) n)
    where
      none : ((m : ℕ) → IsInSkeleton (y ∷ r) m ⊎ (c ≡ Some m) → b < m → m < a → ⊥) → (m : ℕ) → IsInSkeleton (x ∷ y ∷ r) m ⊎ (c ≡ Some m) → b < m → m < a → ⊥
      none f m (◌⊎◌.inl (◌⊎◌.inl e)) g h = let l = o.3 a (below_in c (y ∷ r) a b n) in absurd (omega (arith, l, e, h))
      none f m (◌⊎◌.inl (◌⊎◌.inr k)) g h = f m (◌⊎◌.inl k) g h
      none f m (◌⊎◌.inr e) g h = f m (◌⊎◌.inr e) g h

      up : (b < a) × ((m : ℕ) → IsInSkeleton (y ∷ r) m ⊎ (c ≡ Some m) → b < m → m < a → ⊥) →
          (b < a) × ((m : ℕ) → IsInSkeleton (x ∷ y ∷ r) m ⊎ (c ≡ Some m) → b < m → m < a → ⊥)
      up f = (f.0, λ m k g h. none f.1 m k g h)
