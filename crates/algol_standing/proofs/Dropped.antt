-- The newest instances of a stack are left, and other things are held in it: what stands, and what lies on paths.
use Rattle.std.proofs.Common.{◌≡◌, ◌⊎◌, ℕ, ◌<◌, List, [], ◌∷◌, ◌++◌, Some, Bool, true, false, refl, sym, ap, ◌∙◌, subst, arith}
use Rattle.std.specs.Prelude.{slice_get, slice_set}
use Rattle.algol_laws.proofs.Cells.{set_other}
use Rattle.b67_list.proofs.Lists.{set_set_here}
use Rattle.algol_standing.specs.Skeleton.{Evaluation, IsEvaluated, Stack, Home, Skeleton, IsInSkeleton, Owned, SkeletonStands, OnPath, SkeletonOk, AreFree, AreIdle, evaluated}
use Rattle.algol_standing.proofs.Lists.{some_same, get_set, same_or_other}
use Rattle.algol_standing.proofs.Standing.{set_cases, home_stands}
use Rattle.algol_standing.proofs.Growth.{path_up}
use Rattle.algol_standing.proofs.Shrink.{leave_ok, path_left}
use Rattle.algol_standing.proofs.Firsts.{evaluations_ok, evaluations_grow}
use Rattle.algol_standing.proofs.Going.{goes_ok, goes_path}
use Rattle.algol_standing.proofs.Seen.{in_front, in_back, in_either}

not_below : (x i : ℕ) → x ≡ i → i < x → ⊥
not_below x i e h = absurd (omega (arith, h, e))

-- the newest ones stand once
apart : (homes : List Home) (p : ℕ) (newer rest : List ℕ) → Owned homes p (newer ++ rest) → (i : ℕ) → IsInSkeleton newer i → IsInSkeleton rest i → ⊥
apart homes p [] rest o i n m = n
apart homes p (x ∷ newer) rest o i (◌⊎◌.inl e) m = not_below x i e (o.3 i (in_back newer rest i m))
apart homes p (x ∷ newer) rest o i (◌⊎◌.inr n) m = apart homes p newer rest o.4 i n m

-- an instance stands in one stack
stands_once : (s : Skeleton) → SkeletonOk s → (b : ℕ) (x y : SkeletonStands s b) → x.number ≡ y.number
stands_once s ok b x y =
    let f = home_stands s ok b x in
    let g = home_stands s ok b y in
    let same : f.0 ≡ g.0 = some_same f.1 g.1 in
    sym f.2 ∙ (ap (λ (h : Home). h.process) same ∙ g.2)

module _ (s : Skeleton) (ok : SkeletonOk s) (p : ℕ) (q : Stack) (is : slice_get s.stacks p ≡ Some q) (newer rest : List ℕ) (own : q.own ≡ newer ++ rest) (es : List Evaluation) (live : Bool) where
  abbrev pub kept : Stack
  kept = record { own = rest; evaluations = es; critical = q.critical; live = live }

  abbrev pub dropped : Skeleton
  dropped = record s { stacks = slice_set s.stacks p kept }

  mine : Owned s.homes p (newer ++ rest)
  mine = subst (λ xs. Owned s.homes p xs) own (ok.owned p q is)

  abbrev here : (b : ℕ) → IsInSkeleton (newer ++ rest) b → SkeletonStands s b
  here b n = record { number = p; stack = q; is = is; inside = subst (λ xs. IsInSkeleton xs b) (sym own) n }

  pub dropped_stood : (b : ℕ) → SkeletonStands dropped b → SkeletonStands s b × (IsInSkeleton newer b → ⊥)
  dropped_stood b st = by (set_cases s.stacks p st.number kept st.stack st.is)
    where
      by : ((st.number ≡ p) × (st.stack ≡ kept)) ⊎ ((p ≡ st.number → ⊥) × (slice_get s.stacks st.number ≡ Some st.stack)) → SkeletonStands s b × (IsInSkeleton newer b → ⊥)
      by (◌⊎◌.inl f) =
          let n : IsInSkeleton rest b = subst (λ (z : Stack). IsInSkeleton z.own b) f.1 st.inside in
          (here b (in_back newer rest b n), λ m. apart s.homes p newer rest mine b m n)
      by (◌⊎◌.inr f) =
          let before : SkeletonStands s b = record { number = st.number; stack = st.stack; is = f.1; inside = st.inside } in
          (before, λ m. f.0 (stands_once s ok b (here b (in_front newer rest b m)) before))

  pub dropped_stands : (b : ℕ) → SkeletonStands s b → (IsInSkeleton newer b → ⊥) → SkeletonStands dropped b
  dropped_stands b st out = by (same_or_other p st.number)
    where
      in_rest : IsInSkeleton newer b ⊎ IsInSkeleton rest b → SkeletonStands dropped b
      in_rest (◌⊎◌.inl n) = absurd (out n)
      in_rest (◌⊎◌.inr n) = record { number = p; stack = kept; is = get_set s.stacks p kept q is; inside = n }

      by : (p ≡ st.number) ⊎ (p ≡ st.number → ⊥) → SkeletonStands dropped b
      by (◌⊎◌.inl f) =
          let same : st.stack ≡ q = some_same st.is (ap (λ n. slice_get s.stacks n) (sym f) ∙ is) in
          in_rest (in_either newer rest b (subst (λ z. IsInSkeleton z b) (ap (λ (z : Stack). z.own) same ∙ own) st.inside))
      by (◌⊎◌.inr n) = record { number = st.number; stack = st.stack; is = set_other s.stacks p st.number kept n ∙ st.is; inside = st.inside }

  module _ (free : AreFree s newer) (held : (e : Evaluation) → IsEvaluated es e → IsInSkeleton rest e.over × OnPath s e.over e.within) where
    -- first other things are held
    abbrev other : Stack
    other = record q { evaluations = es }

    fine : (e : Evaluation) → IsEvaluated es e → IsInSkeleton q.own e.over × OnPath s e.over e.within
    fine e n = (subst (λ xs. IsInSkeleton xs e.over) (sym own) (in_back newer rest e.over (held e n).0), (held e n).1)

    evaluated_ok : SkeletonOk (evaluated s p q es)
    evaluated_ok = evaluations_ok s ok p q is es fine

    other_at : slice_get (evaluated s p q es).stacks p ≡ Some other
    other_at = get_set s.stacks p other q is

    free_then : AreFree (evaluated s p q es) newer
    free_then i n k y e lives c = by (set_cases s.stacks p k other y e)
      where
        by : ((k ≡ p) × (y ≡ other)) ⊎ ((p ≡ k → ⊥) × (slice_get s.stacks k ≡ Some y)) → ⊥
        by (◌⊎◌.inl f) = free i n p q is (ap (λ (z : Stack). z.live) (sym f.1) ∙ lives) (ap (λ (z : Stack). z.critical) (sym f.1) ∙ c)
        by (◌⊎◌.inr f) = free i n k y f.1 lives c

    idle : AreIdle es newer
    idle i n e m same = apart s.homes p newer rest mine i n (subst (λ j. IsInSkeleton rest j) (sym same) (held e m).0)

    path_then : (a b : ℕ) → OnPath s a b → OnPath (evaluated s p q es) a b
    path_then a b l = path_up s (evaluated s p q es) (evaluations_grow s ok p q is es fine) a b l

    pub dropped_ok : q.live ≡ true → live ≡ true → SkeletonOk dropped
    dropped_ok lived lives =
        subst (λ (b : Bool). SkeletonOk (record s { stacks = slice_set s.stacks p (record { own = rest; evaluations = es; critical = q.critical; live = b }) })) (sym lives)
        (subst (λ (z : List Stack). SkeletonOk (record s { stacks = z })) (set_set_here s.stacks p other (record other { own = rest; live = true }))
        (goes_ok newer (evaluated s p q es) evaluated_ok p other rest other_at own lived free_then idle))

    pub dropped_path : q.live ≡ true → live ≡ true → (a b : ℕ) → OnPath s a b → (IsInSkeleton newer a → ⊥) → OnPath dropped a b
    dropped_path lived lives a b l out =
        subst (λ (c : Bool). OnPath (record s { stacks = slice_set s.stacks p (record { own = rest; evaluations = es; critical = q.critical; live = c }) }) a b) (sym lives)
        (subst (λ (z : List Stack). OnPath (record s { stacks = z }) a b) (set_set_here s.stacks p other (record other { own = rest; live = true }))
        (goes_path newer (evaluated s p q es) evaluated_ok p other rest other_at own lived free_then idle a b (path_then a b l) out))

    -- the last instance of a stack, which ends
    module _ (i : ℕ) (only : newer ≡ i ∷ []) (none : rest ≡ []) (ends : live ≡ false) where
      own_only : q.own ≡ i ∷ rest
      own_only = own ∙ ap (λ xs. xs ++ rest) only

      free_i : (k : ℕ) (y : Stack) → slice_get (evaluated s p q es).stacks k ≡ Some y → y.live ≡ true → y.critical ≡ Some i → ⊥
      free_i k y e l c = free_then i (subst (λ xs. IsInSkeleton xs i) (sym only) (◌⊎◌.inl refl)) k y e l c

      idle_i : (e : Evaluation) → IsEvaluated es e → i ≡ e.over → ⊥
      idle_i e n same = idle i (subst (λ xs. IsInSkeleton xs i) (sym only) (◌⊎◌.inl refl)) e n same

      dead_lives : live ≡ true → q.live ≡ true
      dead_lives l = let f : true ≡ false = sym l ∙ ends in cc

      pub ended_ok : SkeletonOk dropped
      ended_ok =
          subst (λ (z : List Stack). SkeletonOk (record s { stacks = z })) (set_set_here s.stacks p other (record other { own = rest; live = live }))
          (leave_ok (evaluated s p q es) evaluated_ok p other i rest other_at own_only free_i idle_i live (λ e. none) dead_lives)

      pub ended_path : (a b : ℕ) → OnPath s a b → (IsInSkeleton newer a → ⊥) → OnPath dropped a b
      ended_path a b l out =
          subst (λ (z : List Stack). OnPath (record s { stacks = z }) a b) (set_set_here s.stacks p other (record other { own = rest; live = live }))
          (path_left (evaluated s p q es) evaluated_ok p other i rest other_at own_only free_i idle_i live (λ e. none) dead_lives a b (path_then a b l)
          (λ e. out (subst (λ xs. IsInSkeleton xs a) (sym only) (◌⊎◌.inl e))))
