-- The newest instance of a stack lies on no other's path, where no live process depends on it, so nothing elsewhere refers to it.
use Rattle.std.proofs.Common.{◌≡◌, ◌⊎◌, ℕ, zero, suc, ◌||◌, List, [], ◌∷◌, Option, Some, true, false, refl, sym, ap, ◌∙◌, subst, arith}
use Rattle.std.specs.Prelude.{slice_get}
use Rattle.b67_list.specs.Numbered.{numbered}
use Rattle.b67_list.proofs.Numbers.{none_some}
use Rattle.algol_tree.specs.Scopes.{Scopes}
use Rattle.algol_meaning.specs.Value.{Reference}
use Rattle.algol_meaning.specs.World.{Process, lives, World}
use Rattle.algol_standing.specs.Skeleton.{Stack, Home, Skeleton, IsInSkeleton, NextIn, Owned, SkeletonNext, OnPath, here, down, SkeletonOk, AreFree}
use Rattle.algol_standing.specs.Worlds.{newest_own, stack_of, skeleton, IsOnPath, IsWholeInstance}
use Rattle.algol_standing.specs.Fitting.{IsOk}
use Rattle.algol_standing.specs.Laws.{NewestIsUnseen}
use Rattle.algol_standing.proofs.Lists.{some_same}
use Rattle.algol_standing.proofs.Standing.{lives as stack_lives, home_stands}
use Rattle.algol_standing.proofs.Pairs.{stack_forth}
use Rattle.algol_standing.proofs.Leaving.{free_of}
use Rattle.algol_standing.proofs.Left.{references_lie_on_paths}

-- directly below one of a stack lies an older one of it, or its critical instance
next_below : (c : Option ℕ) (x : ℕ) (older : List ℕ) (a b : ℕ) → NextIn c (x ∷ older) a b → IsInSkeleton older b ⊎ (c ≡ Some b)
next_below c x [] a b n = ◌⊎◌.inr n.1
next_below c x (y ∷ r) a b (◌⊎◌.inl n) = ◌⊎◌.inl (◌⊎◌.inl n.1)
next_below c x (y ∷ r) a b (◌⊎◌.inr n) = by (next_below c y r a b n)
  where
    by : IsInSkeleton r b ⊎ (c ≡ Some b) → IsInSkeleton (y ∷ r) b ⊎ (c ≡ Some b)
    by (◌⊎◌.inl m) = ◌⊎◌.inl (◌⊎◌.inr m)
    by (◌⊎◌.inr e) = ◌⊎◌.inr e

module _ (s : Skeleton) (ok : SkeletonOk s) (p : ℕ) (q : Stack) (x : ℕ) (older : List ℕ) (is : slice_get s.stacks p ≡ Some q) (own : q.own ≡ x ∷ older) (free : AreFree s (x ∷ [])) where
  -- an instance stands in one stack, and there once
  not_below : (k : ℕ) (o : Stack) (y : ℕ) (r : List ℕ) → slice_get s.stacks k ≡ Some o → o.own ≡ y ∷ r → IsInSkeleton r x → ⊥
  not_below k o y r at e m =
      let f = home_stands s ok x (record { number = k; stack = o; is = at; inside = subst (λ xs. IsInSkeleton xs x) (sym e) (◌⊎◌.inr m) }) in
      let g = home_stands s ok x (record { number = p; stack = q; is = is; inside = subst (λ xs. IsInSkeleton xs x) (sym own) (◌⊎◌.inl refl) }) in
      let number : k ≡ p = sym f.2 ∙ ap (λ (h : Home). h.process) (some_same f.1 g.1) ∙ g.2 in
      let stack : o ≡ q = some_same (ap (λ i. slice_get s.stacks i) (sym number) ∙ at) is in
      let lists : y ∷ r ≡ x ∷ older = sym e ∙ ap (λ (z : Stack). z.own) stack ∙ own in
      let same : y ≡ x = cc in
      omega (arith, (subst (λ xs. Owned s.homes k xs) e (ok.owned k o at)).3 x m, same)

  no_next : (a : ℕ) → SkeletonNext s a x → ⊥
  no_next a n = by n.stack.own refl
    where
      by : (xs : List ℕ) → n.stack.own ≡ xs → ⊥
      by [] e = subst (λ xs. NextIn n.stack.critical xs a x) e n.next
      by (y ∷ r) e = either (next_below n.stack.critical y r a x (subst (λ xs. NextIn n.stack.critical xs a x) e n.next))
        where
          either : IsInSkeleton r x ⊎ (n.stack.critical ≡ Some x) → ⊥
          either (◌⊎◌.inl m) = not_below n.number n.stack y r n.is e m
          either (◌⊎◌.inr c) = free x (◌⊎◌.inl refl) n.number n.stack n.is (stack_lives s ok n.number n.stack y r n.is e) c

  pub only_itself : (a b : ℕ) → OnPath s a b → b ≡ x → a ≡ x
  only_itself a b here e = e
  only_itself a b (down {b = c} n l) e = absurd (no_next a (subst (λ y. SkeletonNext s a y) (only_itself c b l e) n))

module _ (sc : Scopes) (w : World) (ok : IsOk sc IsWholeInstance w) (x : ℕ) (free : AreFree (skeleton w) (x ∷ [])) (paths : (i : ℕ) → IsOnPath w i x → i ≡ x) where
  -- a task lies on the path from the critical instance, which is another
  no_task : (k : ℕ) (o : Process) (r : Reference) → numbered w.processes k ≡ Some o → lives o.state ≡ true → o.task ≡ Some r → r.instance ≡ x → ⊥
  no_task zero o r e live f g = none_some e
  no_task (suc zero) o r e live f g = none_some (sym (ok.sound.first o e).1 ∙ f)
  no_task (suc (suc k)) o r e live f g =
      let c = ok.sound.later k o e in
      let same : c.0 ≡ x = paths c.0 (subst (λ i. IsOnPath w c.0 i) g (ok.sound.tasks (suc (suc k)) c.0 o r e live c.1 f)) in
      free x (◌⊎◌.inl refl) (suc (suc k)) (stack_of o) (stack_forth w (suc (suc k)) o e) live (c.1 ∙ ap Some same)

pub newest_is_unseen : NewestIsUnseen
newest_is_unseen sc w p q x older ok is own none =
    let free : AreFree (skeleton w) (x ∷ []) = free_of w (x ∷ []) (ap (λ b. b || false) none) in
    let paths : (i : ℕ) → IsOnPath w i x → i ≡ x = λ i l. only_itself (skeleton w) ok.sound.skeleton_ok p (stack_of q) x older (stack_forth w p q is) own free i x l refl in
    let all = references_lie_on_paths sc w ok in
    record {
      paths = paths;
      instances = λ i y e f n. paths i (all.instances i x y e f n);
      parts = λ k o newer parts part e f m. paths (newest_own (part ∷ parts)) (all.parts k o newer parts part x e f m).1;
      tasks = no_task sc w ok x free paths;
    }
