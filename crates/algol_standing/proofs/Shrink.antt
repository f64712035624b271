-- Leaving the newest instance of a stack, which is no live process's critical one, keeps the world facts.
use Rattle.std.proofs.Common.{◌≡◌, ◌⊎◌, ℕ, ◌<◌, List, [], ◌∷◌, Option, Some, Bool, true, false, refl, sym, ap, ◌∙◌, subst, arith}
use Rattle.std.specs.Prelude.{slice_get}
use Rattle.algol_laws.proofs.Cells.{set_other}
use Rattle.algol_standing.specs.Skeleton.{Evaluation, IsEvaluated, skeleton_left, Stack, Home, Skeleton, IsInSkeleton, NextIn, Owned, SkeletonStands, SkeletonNext, OnPath, here, down, SkeletonOk}
use Rattle.algol_standing.proofs.Lists.{some_same, get_set, same_or_other}
use Rattle.algol_standing.proofs.Standing.{set_cases, lives, home_stands}

not_itself : {B : Type 0} (a : ℕ) → a < a → B
not_itself a h = absurd (omega (arith, h))

-- what lies next to it in a list stands in the list, or is the critical instance
pub next_in : (c : Option ℕ) (own : List ℕ) (a b : ℕ) → NextIn c own a b → IsInSkeleton own b ⊎ (c ≡ Some b)
next_in c [] a b n = absurd n
next_in c (x ∷ []) a b n = ◌⊎◌.inr n.1
next_in c (x ∷ y ∷ r) a b (◌⊎◌.inl n) = ◌⊎◌.inl (◌⊎◌.inr (◌⊎◌.inl n.1))
next_in c (x ∷ y ∷ r) a b (◌⊎◌.inr n) = up (next_in c (y ∷ r) a b n)
  where
    up : IsInSkeleton (y ∷ r) b ⊎ (c ≡ Some b) → IsInSkeleton (x ∷ y ∷ r) b ⊎ (c ≡ Some b)
    up (◌⊎◌.inl i) = ◌⊎◌.inl (◌⊎◌.inr i)
    up (◌⊎◌.inr e) = ◌⊎◌.inr e

-- the newest one left out
next_below : (c : Option ℕ) (i : ℕ) (r : List ℕ) (a b : ℕ) → (i ≡ a → ⊥) → NextIn c (i ∷ r) a b → NextIn c r a b
next_below c i [] a b other n = absurd (other n.0)
next_below c i (y ∷ r) a b other (◌⊎◌.inl n) = absurd (other n.0)
next_below c i (y ∷ r) a b other (◌⊎◌.inr n) = n

next_some : {B : Type 0} (c : Option ℕ) (own : List ℕ) (a b : ℕ) → NextIn c own a b → ((x : ℕ) (xs : List ℕ) → own ≡ x ∷ xs → B) → B
next_some c [] a b n f = absurd n
next_some c (x ∷ xs) a b n f = f x xs refl

module _ (s : Skeleton) (ok : SkeletonOk s) (p : ℕ) (q : Stack) (i : ℕ) (r : List ℕ) (is : slice_get s.stacks p ≡ Some q) (own : q.own ≡ i ∷ r)
    (free : (k : ℕ) (y : Stack) → slice_get s.stacks k ≡ Some y → y.live ≡ true → y.critical ≡ Some i → ⊥)
    (idle : (e : Evaluation) → IsEvaluated q.evaluations e → i ≡ e.over → ⊥) (live : Bool) (ends : live ≡ false → r ≡ []) (lived : live ≡ true → q.live ≡ true) where
  abbrev rest : Stack
  rest = record q { own = r; live = live }

  abbrev now : Skeleton
  now = skeleton_left s p q r live

  at_p : slice_get now.stacks p ≡ Some rest
  at_p = get_set s.stacks p rest q is

  mine : Owned s.homes p (i ∷ r)
  mine = subst (λ x. Owned s.homes p x) own (ok.owned p q is)

  -- what stands in another stack, or below, is not i
  not_i : (k : ℕ) (y : Stack) (b : ℕ) → slice_get s.stacks k ≡ Some y → (p ≡ k → ⊥) → IsInSkeleton y.own b → i ≡ b → ⊥
  not_i k y b e other n same =
      let h = home_stands s ok b (record { number = k; stack = y; is = e; inside = n }) in
      let one : mine.0 ≡ h.0 = some_same mine.1 (ap (λ z. slice_get s.homes z) same ∙ h.1) in
      other (sym mine.2 ∙ ap (λ (z : Home). z.process) one ∙ h.2)

  not_below : (b : ℕ) → IsInSkeleton r b → i ≡ b → ⊥
  not_below b n same = not_itself b (subst (λ z. b < z) same (mine.3 b n))

  -- a stack that is not p's is the same
  same_stack : (k : ℕ) (y : Stack) → (p ≡ k → ⊥) → slice_get s.stacks k ≡ Some y → slice_get now.stacks k ≡ Some y
  same_stack k y other e = set_other s.stacks p k rest other ∙ e

  pub stands_left : (b : ℕ) → SkeletonStands s b → (i ≡ b → ⊥) → SkeletonStands now b
  stands_left b st other = by (same_or_other p st.number)
    where
      in_rest : IsInSkeleton (i ∷ r) b → SkeletonStands now b
      in_rest (◌⊎◌.inl e) = absurd (other e)
      in_rest (◌⊎◌.inr n) = record { number = p; stack = rest; is = at_p; inside = n }

      by : (p ≡ st.number) ⊎ (p ≡ st.number → ⊥) → SkeletonStands now b
      by (◌⊎◌.inl f) =
          let same : st.stack ≡ q = some_same st.is (ap (λ n. slice_get s.stacks n) (sym f) ∙ is) in
          in_rest (subst (λ z. IsInSkeleton z b) (ap (λ (z : Stack). z.own) same ∙ own) st.inside)
      by (◌⊎◌.inr n) = record { number = st.number; stack = st.stack; is = same_stack st.number st.stack n st.is; inside = st.inside }

  pub stood : (b : ℕ) → SkeletonStands now b → SkeletonStands s b × (i ≡ b → ⊥)
  stood b st = by (set_cases s.stacks p st.number rest st.stack st.is)
    where
      by : ((st.number ≡ p) × (st.stack ≡ rest)) ⊎ ((p ≡ st.number → ⊥) × (slice_get s.stacks st.number ≡ Some st.stack)) → SkeletonStands s b × (i ≡ b → ⊥)
      by (◌⊎◌.inl f) =
          let n : IsInSkeleton r b = subst (λ (z : Stack). IsInSkeleton z.own b) f.1 st.inside in
          (record { number = p; stack = q; is = is; inside = subst (λ z. IsInSkeleton z b) (sym own) (◌⊎◌.inr n) }, not_below b n)
      by (◌⊎◌.inr f) = (record { number = st.number; stack = st.stack; is = f.1; inside = st.inside }, not_i st.number st.stack b f.1 f.0 st.inside)

  -- the critical instance of a stack with instances is not i
  not_critical : (k : ℕ) (y : Stack) (a b : ℕ) → slice_get s.stacks k ≡ Some y → NextIn y.critical y.own a b → y.critical ≡ Some b → i ≡ b → ⊥
  not_critical k y a b e n c same =
      next_some y.critical y.own a b n (λ x xs o. free k y e (lives s ok k y x xs e o) (c ∙ ap Some (sym same)))

  pub step_left : (a b : ℕ) → SkeletonNext s a b → (i ≡ a → ⊥) → SkeletonNext now a b × (i ≡ b → ⊥)
  step_left a b n other = by (same_or_other p n.number)
    where
      mine_next : n.stack ≡ q → NextIn q.critical (i ∷ r) a b → SkeletonNext now a b × (i ≡ b → ⊥)
      mine_next same m =
          let down : NextIn q.critical r a b = next_below q.critical i r a b other m in
          (record { number = p; stack = rest; is = at_p; next = down }, below down (next_in q.critical r a b down))
        where
          below : NextIn q.critical r a b → IsInSkeleton r b ⊎ (q.critical ≡ Some b) → i ≡ b → ⊥
          below d (◌⊎◌.inl j) e = not_below b j e
          below d (◌⊎◌.inr c) e = not_critical p q a b is (subst (λ z. NextIn q.critical z a b) (sym own) m) c e

      others : (p ≡ n.number → ⊥) → IsInSkeleton (n.stack).own b ⊎ ((n.stack).critical ≡ Some b) → i ≡ b → ⊥
      others f (◌⊎◌.inl j) e = not_i n.number n.stack b n.is f j e
      others f (◌⊎◌.inr c) e = not_critical n.number n.stack a b n.is n.next c e

      by : (p ≡ n.number) ⊎ (p ≡ n.number → ⊥) → SkeletonNext now a b × (i ≡ b → ⊥)
      by (◌⊎◌.inl f) =
          let same : n.stack ≡ q = some_same n.is (ap (λ k. slice_get s.stacks k) (sym f) ∙ is) in
          mine_next same (subst (λ z. NextIn q.critical z a b) own (subst (λ (z : Stack). NextIn z.critical z.own a b) same n.next))
      by (◌⊎◌.inr f) = (record { number = n.number; stack = n.stack; is = same_stack n.number n.stack f n.is; next = n.next }, others f (next_in (n.stack).critical (n.stack).own a b n.next))

  -- no path from another instance comes to i
  pub path_left : (a b : ℕ) → OnPath s a b → (i ≡ a → ⊥) → OnPath now a b
  path_left a b here other = here
  path_left a b (down {b = c} n l) other = let m = step_left a c n other in down m.0 (path_left c b l m.1)

  left_owned : (k : ℕ) (y : Stack) → slice_get now.stacks k ≡ Some y → Owned s.homes k y.own
  left_owned k y e = by (set_cases s.stacks p k rest y e)
    where
      by : ((k ≡ p) × (y ≡ rest)) ⊎ ((p ≡ k → ⊥) × (slice_get s.stacks k ≡ Some y)) → Owned s.homes k y.own
      by (◌⊎◌.inl f) = subst (λ n. Owned s.homes n y.own) (sym f.0) (subst (λ (z : Stack). Owned s.homes p z.own) (sym f.1) mine.4)
      by (◌⊎◌.inr f) = ok.owned k y f.1

  left_ended : (k : ℕ) (y : Stack) → slice_get now.stacks k ≡ Some y → y.live ≡ false → y.own ≡ []
  left_ended k y e dead = by (set_cases s.stacks p k rest y e)
    where
      by : ((k ≡ p) × (y ≡ rest)) ⊎ ((p ≡ k → ⊥) × (slice_get s.stacks k ≡ Some y)) → y.own ≡ []
      by (◌⊎◌.inl f) = ap (λ (z : Stack). z.own) f.1 ∙ ends (ap (λ (z : Stack). z.live) (sym f.1) ∙ dead)
      by (◌⊎◌.inr f) = ok.ended k y f.1 dead

  left_holds : (k : ℕ) (y : Stack) (c : ℕ) → slice_get now.stacks k ≡ Some y → y.live ≡ true → y.critical ≡ Some c → SkeletonStands now c
  left_holds k y c e alive cr = by (set_cases s.stacks p k rest y e)
    where
      by : ((k ≡ p) × (y ≡ rest)) ⊎ ((p ≡ k → ⊥) × (slice_get s.stacks k ≡ Some y)) → SkeletonStands now c
      by (◌⊎◌.inl f) =
          let l : q.live ≡ true = lived (ap (λ (z : Stack). z.live) (sym f.1) ∙ alive) in
          let c' : q.critical ≡ Some c = ap (λ (z : Stack). z.critical) (sym f.1) ∙ cr in
          stands_left c (ok.holds p q c is l c') (λ e'. free p q is l (c' ∙ ap Some (sym e')))
      by (◌⊎◌.inr f) = stands_left c (ok.holds k y c f.1 alive cr) (λ e'. free k y f.1 alive (cr ∙ ap Some (sym e')))

  still_in : (b : ℕ) → IsInSkeleton q.own b → (i ≡ b → ⊥) → IsInSkeleton r b
  still_in b n other = by (subst (λ z. IsInSkeleton z b) own n)
    where
      by : IsInSkeleton (i ∷ r) b → IsInSkeleton r b
      by (◌⊎◌.inl e) = absurd (other e)
      by (◌⊎◌.inr m) = m

  left_evaluates : (k : ℕ) (y : Stack) (e : Evaluation) → slice_get now.stacks k ≡ Some y → IsEvaluated y.evaluations e → IsInSkeleton y.own e.over × OnPath now e.over e.within
  left_evaluates k y e g n = by (set_cases s.stacks p k rest y g)
    where
      by : ((k ≡ p) × (y ≡ rest)) ⊎ ((p ≡ k → ⊥) × (slice_get s.stacks k ≡ Some y)) → IsInSkeleton y.own e.over × OnPath now e.over e.within
      by (◌⊎◌.inl f) =
          let m : IsEvaluated q.evaluations e = subst (λ (z : Stack). IsEvaluated z.evaluations e) f.1 n in
          let o = ok.evaluates p q e is m in
          (subst (λ (z : Stack). IsInSkeleton z.own e.over) (sym f.1) (still_in e.over o.0 (idle e m)), path_left e.over e.within o.1 (idle e m))
      by (◌⊎◌.inr f) = let o = ok.evaluates k y e f.1 n in (o.0, path_left e.over e.within o.1 (not_i k y e.over f.1 f.0 o.0))

  pub leave_ok : SkeletonOk now
  leave_ok =
      record {
        owned = left_owned;
        ended = left_ended;
        known = ok.known;
        refers = λ a h x st e n. let o = stood a st in path_left a x (ok.refers a h x o.0 e n) o.1;
        evaluates = left_evaluates;
        holds = left_holds;
      }
