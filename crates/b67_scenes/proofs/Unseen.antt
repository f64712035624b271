-- The newest instance of a stack, on which no live process depends, lies on no other's path.
use Rattle.std.proofs.Common.{◌≡◌, ◌⊎◌, inl, inr, ℕ, ◌||◌, List, [], ◌∷◌, Option, Some, false, refl, sym, ap, ◌∙◌, subst, arith}
use Rattle.b67_scenes.proofs.Prelude.{slice_get, numbered, Scopes, own_instances, some_depends, Process, World, stack_forth, home_stands, IsOk, Stack, Home, Skeleton, IsInSkeleton, NextIn, SkeletonNext, OnPath, SkeletonOk, stack_of, skeleton, IsOnPath, IsWholeInstance}
use Rattle.algol_standing.specs.Skeleton as skeletons
use Rattle.algol_standing.specs.Skeleton.{Owned, AreFree}
use Rattle.algol_standing.proofs.Lists.{some_same}
use Rattle.algol_standing.proofs.Standing.{lives as stack_lives}
use Rattle.algol_standing.proofs.Leaving.{free_of}

-- directly below one of a stack lies an older one of it, or its critical instance
next_below : (c : Option ℕ) (x : ℕ) (older : List ℕ) (a b : ℕ) → NextIn c (x ∷ older) a b → IsInSkeleton older b ⊎ (c ≡ Some b)
next_below c x [] a b n = inr n.1
next_below c x (y ∷ r) a b (inl n) = inl (inl n.1)
next_below c x (y ∷ r) a b (inr n) = by (next_below c y r a b n)
  where
    by : IsInSkeleton r b ⊎ (c ≡ Some b) → IsInSkeleton (y ∷ r) b ⊎ (c ≡ Some b)
    by (inl m) = inl (inr m)
    by (inr e) = inr e

module _ (s : Skeleton) (ok : SkeletonOk s) (p : ℕ) (q : Stack) (x : ℕ) (older : List ℕ) (is : slice_get s.stacks p ≡ Some q) (own : q.own ≡ x ∷ older) (free : AreFree s (x ∷ [])) where
  -- an instance stands in one stack, and there once
  not_below : (k : ℕ) (o : Stack) (y : ℕ) (r : List ℕ) → slice_get s.stacks k ≡ Some o → o.own ≡ y ∷ r → IsInSkeleton r x → ⊥
  not_below k o y r at e m =
      let f = home_stands s ok x (record { number = k; stack = o; is = at; inside = subst (λ xs. IsInSkeleton xs x) (sym e) (inr m) }) in
      let g = home_stands s ok x (record { number = p; stack = q; is = is; inside = subst (λ xs. IsInSkeleton xs x) (sym own) (inl refl) }) in
      let number : k ≡ p = sym f.2 ∙ ap (λ (h : Home). h.process) (some_same f.1 g.1) ∙ g.2 in
      let stack : o ≡ q = some_same (ap (λ i. slice_get s.stacks i) (sym number) ∙ at) is in
      let lists : y ∷ r ≡ x ∷ older = sym e ∙ ap (λ (z : Stack). z.own) stack ∙ own in
      let same : y ≡ x = cc in
      omega (arith, (subst (λ xs. Owned s.homes k xs) e (ok.owned k o at)).3 x m, same)

  no_next : (a : ℕ) → SkeletonNext s a x → ⊥
  no_next a n = by n.stack.own refl
    where
      by : (xs : List ℕ) → n.stack.own ≡ xs → ⊥
      by [] e = subst (λ xs. NextIn n.stack.critical xs a x) e n.next
      by (y ∷ r) e = either (next_below n.stack.critical y r a x (subst (λ xs. NextIn n.stack.critical xs a x) e n.next))
        where
          either : IsInSkeleton r x ⊎ (n.stack.critical ≡ Some x) → ⊥
          either (inl m) = not_below n.number n.stack y r n.is e m
          either (inr c) = free x (inl refl) n.number n.stack n.is (stack_lives s ok n.number n.stack y r n.is e) c

  only_itself : (a b : ℕ) → OnPath s a b → b ≡ x → a ≡ x
  only_itself a b skeletons.here e = e
  only_itself a b (skeletons.down {b = c} n l) e = absurd (no_next a (subst (λ y. SkeletonNext s a y) (only_itself c b l e) n))

pub newest_alone : (sc : Scopes) (w : World) (p : ℕ) (q : Process) (x : ℕ) (older : List ℕ) → IsOk sc IsWholeInstance w → numbered w.processes p ≡ Some q → own_instances q.todo ≡ x ∷ older →
    some_depends w.processes x ≡ false → (i : ℕ) → IsOnPath w i x → i ≡ x
newest_alone sc w p q x older ok is own none i path =
    only_itself (skeleton w) ok.sound.skeleton_ok p (stack_of q) x older (stack_forth w p q is) own (free_of w (x ∷ []) (ap (λ b. b || false) none)) i x path refl
