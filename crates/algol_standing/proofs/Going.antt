-- GO TO: the newest instances of a stack are left one after another, once what was held above them is dropped.
use Rattle.std.proofs.Common.{◌≡◌, ◌⊎◌, ℕ, List, [], ◌∷◌, ◌++◌, Some, Bool, true, refl, sym, ap, ◌∙◌, subst}
use Rattle.std.specs.Prelude.{slice_get, slice_set}
use Rattle.b67_list.proofs.Lists.{set_set_here}
use Rattle.b67_list.proofs.Truths.{not_both}
use Rattle.algol_standing.specs.Skeleton.{Stack, Skeleton, IsInSkeleton, OnPath, SkeletonOk, AreFree, AreIdle, skeleton_left}
use Rattle.algol_standing.proofs.Lists.{get_set, some_same}
use Rattle.algol_standing.proofs.Standing.{set_cases}
use Rattle.algol_standing.proofs.Shrink.{leave_ok, path_left}

-- a stack that was changed only in its instances has the critical instance that it had
free_after : (s : Skeleton) (p : ℕ) (q : Stack) (r : List ℕ) (is : List ℕ) → slice_get s.stacks p ≡ Some q → AreFree s is → AreFree (skeleton_left s p q r q.live) is
free_after s p q r is at free i n k y e live c = by (set_cases s.stacks p k (record q { own = r; live = q.live }) y e)
  where
    by : ((k ≡ p) × (y ≡ record q { own = r; live = q.live })) ⊎ ((p ≡ k → ⊥) × (slice_get s.stacks k ≡ Some y)) → ⊥
    by (◌⊎◌.inl f) = free i n p q at (ap (λ (z : Stack). z.live) (sym f.1) ∙ live) (ap (λ (z : Stack). z.critical) (sym f.1) ∙ c)
    by (◌⊎◌.inr f) = free i n k y f.1 live c

unchanged : (xs : List Stack) (k : ℕ) (x : Stack) → slice_get xs k ≡ Some x → {y : Stack} → x ≡ y → xs ≡ slice_set xs k y
unchanged [] k x e is = refl
unchanged (z ∷ xs) ℕ.zero x e is = let first : slice_get (z ∷ xs) 0 ≡ Some z = refl in ap (λ (o : Stack). o ∷ xs) (some_same first e ∙ is)
unchanged (z ∷ xs) (ℕ.suc k) x e is = ap (λ zs. z ∷ zs) (unchanged xs k x e is)

-- where no instance is left, the stacks are the same
stays : (s : Skeleton) (p : ℕ) (q : Stack) (rest : List ℕ) → slice_get s.stacks p ≡ Some q → q.own ≡ rest → q.live ≡ true → s.stacks ≡ slice_set s.stacks p (record q { own = rest; live = true })
stays s p q rest at own live =
    unchanged s.stacks p q at (ap (λ (o : List ℕ). record q { own = o }) own ∙ ap (λ (b : Bool). record q { own = rest; live = b }) live)

pub goes_ok : (newer : List ℕ) (s : Skeleton) → SkeletonOk s → (p : ℕ) (q : Stack) (rest : List ℕ) → slice_get s.stacks p ≡ Some q → q.own ≡ newer ++ rest → q.live ≡ true →
    AreFree s newer → AreIdle q.evaluations newer → SkeletonOk (skeleton_left s p q rest true)
goes_ok [] s ok p q rest at own live free idle = subst (λ (z : List Stack). SkeletonOk (record s { stacks = z })) (stays s p q rest at own live) ok
goes_ok (i ∷ newer) s ok p q rest at own live free idle =
    subst (λ (z : List Stack). SkeletonOk (record s { stacks = z })) (set_set_here s.stacks p _ _)
    (goes_ok newer (skeleton_left s p q (newer ++ rest) q.live) one p (record q { own = newer ++ rest; live = q.live }) rest (get_set s.stacks p _ q at) refl live
    (λ j n. free_after s p q (newer ++ rest) newer at (λ k m. free k (◌⊎◌.inr m)) j n) (λ j n. idle j (◌⊎◌.inr n)))
  where
    one : SkeletonOk (skeleton_left s p q (newer ++ rest) q.live)
    one =
        leave_ok s ok p q i (newer ++ rest) at own (λ k y e l c. free i (◌⊎◌.inl refl) k y e l c) (λ e n same. idle i (◌⊎◌.inl refl) e n same) q.live
        (λ dead. absurd (not_both q.live live dead)) (λ l. l)

-- no path from another instance comes to one that was left
pub goes_path : (newer : List ℕ) (s : Skeleton) → SkeletonOk s → (p : ℕ) (q : Stack) (rest : List ℕ) → slice_get s.stacks p ≡ Some q → q.own ≡ newer ++ rest → q.live ≡ true →
    AreFree s newer → AreIdle q.evaluations newer → (a b : ℕ) → OnPath s a b → (IsInSkeleton newer a → ⊥) → OnPath (skeleton_left s p q rest true) a b
goes_path [] s ok p q rest at own live free idle a b l out = subst (λ (z : List Stack). OnPath (record s { stacks = z }) a b) (stays s p q rest at own live) l
goes_path (i ∷ newer) s ok p q rest at own live free idle a b l out =
    subst (λ (z : List Stack). OnPath (record s { stacks = z }) a b) (set_set_here s.stacks p _ _)
    (goes_path newer (skeleton_left s p q (newer ++ rest) q.live) one p (record q { own = newer ++ rest; live = q.live }) rest (get_set s.stacks p _ q at) refl live
    (λ j n. free_after s p q (newer ++ rest) newer at (λ k m. free k (◌⊎◌.inr m)) j n) (λ j n. idle j (◌⊎◌.inr n)) a b below (λ n. out (◌⊎◌.inr n)))
  where
    one : SkeletonOk (skeleton_left s p q (newer ++ rest) q.live)
    one =
        leave_ok s ok p q i (newer ++ rest) at own (λ k y e l c. free i (◌⊎◌.inl refl) k y e l c) (λ e n same. idle i (◌⊎◌.inl refl) e n same) q.live
        (λ dead. absurd (not_both q.live live dead)) (λ l. l)

    below : OnPath (skeleton_left s p q (newer ++ rest) q.live) a b
    below =
        path_left s ok p q i (newer ++ rest) at own (λ k y e l c. free i (◌⊎◌.inl refl) k y e l c) (λ e n same. idle i (◌⊎◌.inl refl) e n same) q.live
        (λ dead. absurd (not_both q.live live dead)) (λ l. l) a b l (λ e. out (◌⊎◌.inl e))
