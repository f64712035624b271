-- What lies on the path of a standing instance stands.
use Rattle.std.proofs.Common.{◌≡◌, ◌⊎◌, ℕ, zero, suc, ◌<◌, List, [], ◌∷◌, length, Some, Bool, true, false, refl, sym, ap, ◌∙◌, arith}
use Rattle.std.specs.Prelude.{slice_get, slice_set}
use Rattle.b67_list.proofs.Lists.{get_within}
use Rattle.b67_list.proofs.Numbers.{none_some}
use Rattle.algol_standing.specs.Skeleton.{Stack, Home, Skeleton, IsInSkeleton, NextIn, Owned, SkeletonStands, OnPath, here, down, SkeletonOk}

pub nil_cons : {A B : Type 0} {x : A} {xs : List A} → [] ≡ x ∷ xs → B
nil_cons e = cc

-- a place of a list that was changed is that place, or another
pub set_cases : {A : Type 0} (xs : List A) (k j : ℕ) (x y : A) → slice_get (slice_set xs k x) j ≡ Some y → ((j ≡ k) × (y ≡ x)) ⊎ ((k ≡ j → ⊥) × (slice_get xs j ≡ Some y))
set_cases [] k j x y e = none_some e
set_cases (z ∷ xs) zero zero x y e = ◌⊎◌.inl (refl, cc)
set_cases (z ∷ xs) zero (suc j) x y e = ◌⊎◌.inr (λ h. let f : 0 ≡ suc j = h in omega (arith, f), e)
set_cases (z ∷ xs) (suc k) zero x y e = ◌⊎◌.inr (λ h. let f : suc k ≡ 0 = h in omega (arith, f), e)
set_cases (z ∷ xs) (suc k) (suc j) x y e = up (set_cases xs k j x y e)
  where
    up : ((j ≡ k) × (y ≡ x)) ⊎ ((k ≡ j → ⊥) × (slice_get xs j ≡ Some y)) → ((suc j ≡ suc k) × (y ≡ x)) ⊎ ((suc k ≡ suc j → ⊥) × (slice_get xs j ≡ Some y))
    up (◌⊎◌.inl f) = ◌⊎◌.inl (ap suc f.0, f.1)
    up (◌⊎◌.inr f) = ◌⊎◌.inr (λ h. let g : suc k ≡ suc j = h in f.0 (omega (arith, g)), f.1)

module _ (s : Skeleton) (ok : SkeletonOk s) where
  -- a stack with instances lives
  pub lives : (p : ℕ) (q : Stack) (x : ℕ) (xs : List ℕ) → slice_get s.stacks p ≡ Some q → q.own ≡ x ∷ xs → q.live ≡ true
  lives p q x xs is e = by q.live refl
    where
      by : (b : Bool) → q.live ≡ b → q.live ≡ true
      by true f = f
      by false f = nil_cons (sym (ok.ended p q is f) ∙ e)

  next_stands : (p : ℕ) (q : Stack) (own : List ℕ) (a b : ℕ) → slice_get s.stacks p ≡ Some q → q.live ≡ true → ((c : ℕ) → IsInSkeleton own c → IsInSkeleton q.own c) → NextIn q.critical own a b → SkeletonStands s b
  next_stands p q [] a b is live sub n = absurd n
  next_stands p q (x ∷ []) a b is live sub n = ok.holds p q b is live n.1
  next_stands p q (x ∷ y ∷ r) a b is live sub (◌⊎◌.inl n) = record { number = p; stack = q; is = is; inside = sub b (◌⊎◌.inr (◌⊎◌.inl n.1)) }
  next_stands p q (x ∷ y ∷ r) a b is live sub (◌⊎◌.inr n) = next_stands p q (y ∷ r) a b is live (λ c i. sub c (◌⊎◌.inr i)) n

  next_lives : (p : ℕ) (q : Stack) (own : List ℕ) (a b : ℕ) → slice_get s.stacks p ≡ Some q → q.own ≡ own → NextIn q.critical own a b → q.live ≡ true
  next_lives p q [] a b is e n = absurd n
  next_lives p q (x ∷ r) a b is e n = lives p q x r is e

  pub stands_path : (a b : ℕ) → SkeletonStands s a → OnPath s a b → SkeletonStands s b
  stands_path a b st here = st
  stands_path a b st (down {b = c} n l) = stands_path c b (next_stands n.number n.stack n.stack.own a c n.is (next_lives n.number n.stack n.stack.own a c n.is refl n.next) (λ d i. i) n.next) l

  pub path_on : (a b c : ℕ) → OnPath s a b → OnPath s b c → OnPath s a c
  path_on a b c here m = m
  path_on a b c (down {b = d} n l) m = down n (path_on d b c l m)

  in_home : (p : ℕ) (own : List ℕ) (a : ℕ) → Owned s.homes p own → IsInSkeleton own a → (h : Home) × (slice_get s.homes a ≡ Some h) × (h.process ≡ p)
  in_home p [] a o i = absurd i
  in_home p (x ∷ xs) a o (◌⊎◌.inl e) = (o.0, ap (λ y. slice_get s.homes y) (sym e) ∙ o.1, o.2)
  in_home p (x ∷ xs) a o (◌⊎◌.inr i) = in_home p xs a o.4 i

  -- a standing instance has its home, in the stack where it stands
  pub home_stands : (a : ℕ) → (st : SkeletonStands s a) → (h : Home) × (slice_get s.homes a ≡ Some h) × (h.process ≡ st.number)
  home_stands a st = in_home st.number st.stack.own a (ok.owned st.number st.stack st.is) st.inside

  pub stands_small : (a : ℕ) → SkeletonStands s a → a < length s.homes
  stands_small a st = get_within s.homes a (home_stands a st).0 (home_stands a st).1
