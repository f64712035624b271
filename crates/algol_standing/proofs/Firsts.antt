-- The first instance on a path of those that are referred to: all the others lie on the path from it. And evaluations.
use Rattle.std.proofs.Common.{◌≡◌, ◌⊎◌, ℕ, ◌<◌, List, [], ◌∷◌, Option, Some, refl, sym, ap, ◌∙◌, subst, arith}
use Rattle.std.specs.Prelude.{slice_get}
use Rattle.algol_laws.proofs.Cells.{set_other}
use Rattle.algol_standing.specs.Skeleton.{Evaluation, IsEvaluated, Stack, Home, Skeleton, IsInSkeleton, NextIn, Owned, SkeletonStands, SkeletonNext, OnPath, here, down, FirstOf, this, further, SkeletonOk, evaluated, started}
use Rattle.algol_standing.proofs.Lists.{some_same, get_set, same_or_other}
use Rattle.algol_standing.proofs.Standing.{set_cases, stands_path, home_stands}
use Rattle.algol_standing.proofs.Growth.{Grown, Grows, stands_up, path_up, start_ok}

pub is_in : (refs : List ℕ) (a : ℕ) → IsInSkeleton refs a ⊎ (IsInSkeleton refs a → ⊥)
is_in [] a = ◌⊎◌.inr (λ n. n)
is_in (x ∷ refs) a = by (same_or_other x a) (is_in refs a)
  where
    neither : (x ≡ a → ⊥) → (IsInSkeleton refs a → ⊥) → IsInSkeleton (x ∷ refs) a → ⊥
    neither f g (◌⊎◌.inl e) = f e
    neither f g (◌⊎◌.inr n) = g n

    by : (x ≡ a) ⊎ (x ≡ a → ⊥) → IsInSkeleton refs a ⊎ (IsInSkeleton refs a → ⊥) → IsInSkeleton (x ∷ refs) a ⊎ (IsInSkeleton (x ∷ refs) a → ⊥)
    by (◌⊎◌.inl e) y = ◌⊎◌.inl (◌⊎◌.inl e)
    by (◌⊎◌.inr f) (◌⊎◌.inl n) = ◌⊎◌.inl (◌⊎◌.inr n)
    by (◌⊎◌.inr f) (◌⊎◌.inr g) = ◌⊎◌.inr (neither f g)

-- ---- one instance lies directly below another

pub below_in : (c : Option ℕ) (own : List ℕ) (a b : ℕ) → NextIn c own a b → IsInSkeleton own a
below_in c [] a b n = absurd n
below_in c (x ∷ []) a b n = ◌⊎◌.inl n.0
below_in c (x ∷ y ∷ r) a b (◌⊎◌.inl n) = ◌⊎◌.inl n.0
below_in c (x ∷ y ∷ r) a b (◌⊎◌.inr n) = ◌⊎◌.inr (below_in c (y ∷ r) a b n)

not_newer : {B : Type 0} (x a : ℕ) (xs : List ℕ) → ((b : ℕ) → IsInSkeleton xs b → b < x) → x ≡ a → IsInSkeleton xs a → B
not_newer x a xs h e n = absurd (omega (arith, h a n, e))

same_next : (homes : List Home) (p : ℕ) (c : Option ℕ) (own : List ℕ) (a b d : ℕ) → Owned homes p own → NextIn c own a b → NextIn c own a d → b ≡ d
same_next homes p c [] a b d o m n = absurd m
same_next homes p c (x ∷ []) a b d o m n = some_same m.1 n.1
same_next homes p c (x ∷ y ∷ r) a b d o (◌⊎◌.inl m) (◌⊎◌.inl n) = sym m.1 ∙ n.1
same_next homes p c (x ∷ y ∷ r) a b d o (◌⊎◌.inl m) (◌⊎◌.inr n) = not_newer x a (y ∷ r) o.3 m.0 (below_in c (y ∷ r) a d n)
same_next homes p c (x ∷ y ∷ r) a b d o (◌⊎◌.inr m) (◌⊎◌.inl n) = not_newer x a (y ∷ r) o.3 n.0 (below_in c (y ∷ r) a b m)
same_next homes p c (x ∷ y ∷ r) a b d o (◌⊎◌.inr m) (◌⊎◌.inr n) = same_next homes p c (y ∷ r) a b d o.4 m n

module _ (s : Skeleton) (ok : SkeletonOk s) where
  one_below : (a b d : ℕ) → SkeletonNext s a b → SkeletonNext s a d → b ≡ d
  one_below a b d m n =
      let f = home_stands s ok a (record { number = m.number; stack = m.stack; is = m.is; inside = below_in m.stack.critical m.stack.own a b m.next }) in
      let g = home_stands s ok a (record { number = n.number; stack = n.stack; is = n.is; inside = below_in n.stack.critical n.stack.own a d n.next }) in
      let home : f.0 ≡ g.0 = some_same f.1 g.1 in
      let number : m.number ≡ n.number = sym f.2 ∙ ap (λ (h : Home). h.process) home ∙ g.2 in
      let stack : m.stack ≡ n.stack = some_same (ap (λ k. slice_get s.stacks k) (sym number) ∙ m.is) n.is in
      same_next s.homes n.number n.stack.critical n.stack.own a b d (ok.owned n.number n.stack n.is) (subst (λ (z : Stack). NextIn z.critical z.own a b) stack m.next) n.next

  pub path_first : (refs : List ℕ) (i c : ℕ) → FirstOf s refs i c → OnPath s i c
  path_first refs i c (this n) = here
  path_first refs i c (further {b = b} out n l) = down n (path_first refs b c l)

  -- all that is referred to lies on the path from the first
  pub from_first : (refs : List ℕ) (i c : ℕ) → FirstOf s refs i c → (x : ℕ) → IsInSkeleton refs x → OnPath s i x → OnPath s c x
  from_first refs i c (this n) x m l = l
  from_first refs i c (further {b = b} out n f) x m here = absurd (out m)
  from_first refs i c (further {b = b} out n f) x m (down {b = d} k l) = from_first refs b c f x m (subst (λ y. OnPath s y x) (one_below i d b k n) l)

  pub there_is : (refs : List ℕ) (i x : ℕ) → IsInSkeleton refs x → OnPath s i x → (c : ℕ) × FirstOf s refs i c
  there_is refs i x m here = (i, this m)
  there_is refs i x m (down {b = b} n l) = by (is_in refs i) (there_is refs b x m l)
    where
      by : IsInSkeleton refs i ⊎ (IsInSkeleton refs i → ⊥) → (c : ℕ) × FirstOf s refs b c → (c : ℕ) × FirstOf s refs i c
      by (◌⊎◌.inl k) r = (i, this k)
      by (◌⊎◌.inr k) r = (r.0, further k n r.1)

  pub start_first : (i c : ℕ) (refs : List ℕ) → SkeletonStands s i → FirstOf s refs i c → ((x : ℕ) → IsInSkeleton refs x → OnPath s i x) → SkeletonOk (started s refs c)
  start_first i c refs st f paths = start_ok s ok c refs (stands_path s ok i c st (path_first refs i c f)) (λ x m. from_first refs i c f x m (paths x m))

-- ---- evaluations come and go, and nothing else changes

module _ (s : Skeleton) (ok : SkeletonOk s) (p : ℕ) (q : Stack) (is : slice_get s.stacks p ≡ Some q) (es : List Evaluation) (fine : (e : Evaluation) → IsEvaluated es e → IsInSkeleton q.own e.over × OnPath s e.over e.within) where
  abbrev other : Stack
  other = record q { evaluations = es }

  abbrev t : Skeleton
  t = evaluated s p q es

  pub evaluations_grow : Grows s t
  evaluations_grow k y e = by (same_or_other p k)
    where
      by : (p ≡ k) ⊎ (p ≡ k → ⊥) → Grown t k y
      by (◌⊎◌.inl f) =
          let same : q ≡ y = some_same is (ap (λ n. slice_get s.stacks n) f ∙ e) in
          record {
            stack = other;
            is = ap (λ n. slice_get t.stacks n) (sym f) ∙ get_set s.stacks p other q is;
            inside = λ b n. subst (λ (z : Stack). IsInSkeleton z.own b) (sym same) n;
            next = λ a b n. subst (λ (z : Stack). NextIn z.critical z.own a b) (sym same) n;
          }
      by (◌⊎◌.inr f) = record { stack = y; is = set_other s.stacks p k other f ∙ e; inside = λ b n. n; next = λ a b n. n }

  -- each stack is an old one but for its evaluations
  was : (k : ℕ) (y : Stack) → slice_get t.stacks k ≡ Some y → (z : Stack) × (slice_get s.stacks k ≡ Some z) × (y.own ≡ z.own) × (y.critical ≡ z.critical) × (y.live ≡ z.live)
  was k y e = by (set_cases s.stacks p k other y e)
    where
      by : ((k ≡ p) × (y ≡ other)) ⊎ ((p ≡ k → ⊥) × (slice_get s.stacks k ≡ Some y)) → (z : Stack) × (slice_get s.stacks k ≡ Some z) × (y.own ≡ z.own) × (y.critical ≡ z.critical) × (y.live ≡ z.live)
      by (◌⊎◌.inl f) = (q, ap (λ n. slice_get s.stacks n) f.0 ∙ is, ap (λ (z : Stack). z.own) f.1, ap (λ (z : Stack). z.critical) f.1, ap (λ (z : Stack). z.live) f.1)
      by (◌⊎◌.inr f) = (y, f.1, refl, refl, refl)

  stood : (b : ℕ) → SkeletonStands t b → SkeletonStands s b
  stood b st = let z = was st.number st.stack st.is in record { number = st.number; stack = z.0; is = z.1; inside = subst (λ o. IsInSkeleton o b) z.2 st.inside }

  pub evaluations_ok : SkeletonOk t
  evaluations_ok =
      record {
        owned = λ k y e. let z = was k y e in subst (λ o. Owned s.homes k o) (sym z.2) (ok.owned k z.0 z.1);
        ended = λ k y e dead. let z = was k y e in z.2 ∙ ok.ended k z.0 z.1 (sym z.4 ∙ dead);
        known = ok.known;
        refers = λ a h r st e m. path_up s t evaluations_grow a r (ok.refers a h r (stood a st) e m);
        evaluates = evaluates;
        holds = λ k y c e live cr. let z = was k y e in stands_up s t evaluations_grow c (ok.holds k z.0 c z.1 (sym z.4 ∙ live) (sym z.3 ∙ cr));
      }
    where
      evaluates : (k : ℕ) (y : Stack) (e : Evaluation) → slice_get t.stacks k ≡ Some y → IsEvaluated y.evaluations e → IsInSkeleton y.own e.over × OnPath t e.over e.within
      evaluates k y e g n = by (set_cases s.stacks p k other y g)
        where
          by : ((k ≡ p) × (y ≡ other)) ⊎ ((p ≡ k → ⊥) × (slice_get s.stacks k ≡ Some y)) → IsInSkeleton y.own e.over × OnPath t e.over e.within
          by (◌⊎◌.inl f) =
              let o = fine e (subst (λ (z : Stack). IsEvaluated z.evaluations e) f.1 n) in
              (subst (λ (z : Stack). IsInSkeleton z.own e.over) (sym f.1) o.0, path_up s t evaluations_grow e.over e.within o.1)
          by (◌⊎◌.inr f) = let o = ok.evaluates k y e f.1 n in (o.0, path_up s t evaluations_grow e.over e.within o.1)
