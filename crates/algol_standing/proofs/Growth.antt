-- A new instance, on top of a stack or as the base of a new one, keeps the world facts.
use Rattle.std.proofs.Common.{◌≡◌, ◌⊎◌, ℕ, ◌+◌, ◌<◌, List, [], ◌∷◌, ◌++◌, length, Some, true, false, refl, sym, ap, ◌∙◌, subst, arith, length-append}
use Rattle.std.specs.Prelude.{slice_get}
use Rattle.algol_laws.proofs.Cells.{set_other}
use Rattle.b67_list.proofs.Lists.{get_front, get_within}
use Rattle.b67_list.proofs.Truths.{true_false}
use Rattle.algol_standing.specs.Skeleton.{Evaluation, IsEvaluated, entered_skeleton, started, Stack, Home, Skeleton, IsInSkeleton, NextIn, Owned, SkeletonStands, SkeletonNext, OnPath, here, down, SkeletonOk}
use Rattle.algol_standing.proofs.Lists.{some_same, get_seam, get_last, get_set, same_or_other}
use Rattle.algol_standing.proofs.Standing.{set_cases, lives, stands_path, home_stands, stands_small}

pub owned_front : (homes : List Home) (h : Home) (p : ℕ) (own : List ℕ) → Owned homes p own → Owned (homes ++ h ∷ []) p own
owned_front homes h p [] o = tt
owned_front homes h p (x ∷ xs) o = (o.0, get_front homes (h ∷ []) x o.0 o.1, o.2, o.3, owned_front homes h p xs o.4)

pub owned_small : (homes : List Home) (p : ℕ) (own : List ℕ) (a : ℕ) → Owned homes p own → IsInSkeleton own a → a < length homes
owned_small homes p [] a o i = absurd i
owned_small homes p (x ∷ xs) a o (◌⊎◌.inl e) = omega (arith, get_within homes x o.0 o.1, e)
owned_small homes p (x ∷ xs) a o (◌⊎◌.inr i) = owned_small homes p xs a o.4 i

-- each stack of s has grown
pub record Grown (t : Skeleton) (p : ℕ) (q : Stack) : Type 0 where
  pub stack : Stack
  pub is : slice_get t.stacks p ≡ Some stack
  pub inside : (b : ℕ) → IsInSkeleton q.own b → IsInSkeleton stack.own b
  pub next : (a b : ℕ) → NextIn q.critical q.own a b → NextIn stack.critical stack.own a b

abbrev pub Grows : Skeleton → Skeleton → Type 0
Grows s t = (p : ℕ) (q : Stack) → slice_get s.stacks p ≡ Some q → Grown t p q

pub stands_up : (s t : Skeleton) → Grows s t → (b : ℕ) → SkeletonStands s b → SkeletonStands t b
stands_up s t g b st = let y = g st.number st.stack st.is in record { number = st.number; stack = y.stack; is = y.is; inside = y.inside b st.inside }

pub path_up : (s t : Skeleton) → Grows s t → (a b : ℕ) → OnPath s a b → OnPath t a b
path_up s t g a b here = here
path_up s t g a b (down {b = c} n l) =
    let y = g n.number n.stack n.is in
    down (record { number = n.number; stack = y.stack; is = y.is; next = y.next a c n.next }) (path_up s t g c b l)

-- the parents of the instances that there were
module _ (s t : Skeleton) (ok : SkeletonOk s) (g : Grows s t) (h : Home) (homes : t.homes ≡ s.homes ++ h ∷ []) where
  old_home : (a : ℕ) (x : Home) → slice_get s.homes a ≡ Some x → slice_get t.homes a ≡ Some x
  old_home a x e = ap (λ hs. slice_get hs a) homes ∙ get_front s.homes (h ∷ []) a x e

  pub old_refers : (a : ℕ) (x : Home) (r : ℕ) → SkeletonStands s a → slice_get t.homes a ≡ Some x → IsInSkeleton x.refs r → OnPath t a r
  old_refers a x r st e n =
      let y = home_stands s ok a st in
      let same : y.0 ≡ x = some_same (old_home a y.0 y.1) e in
      path_up s t g a r (ok.refers a y.0 r st y.1 (subst (λ (z : Home). IsInSkeleton z.refs r) (sym same) n))

  pub all_known : ((r : ℕ) → IsInSkeleton h.refs r → r < length s.homes) → (a : ℕ) (x : Home) (r : ℕ) → slice_get t.homes a ≡ Some x → IsInSkeleton x.refs r → r < length t.homes
  all_known small a x r e n = by (get_last s.homes h a x (ap (λ hs. slice_get hs a) (sym homes) ∙ e))
    where
      longer : length t.homes ≡ length s.homes + 1
      longer = omega (arith, ap length homes, length-append s.homes (h ∷ []))

      by : (slice_get s.homes a ≡ Some x) ⊎ ((a ≡ length s.homes) × (x ≡ h)) → r < length t.homes
      by (◌⊎◌.inl f) = omega (arith, longer, ok.known a x r f n)
      by (◌⊎◌.inr f) = omega (arith, longer, small r (subst (λ (z : Home). IsInSkeleton z.refs r) f.1 n))

-- ---- on top of a stack

module _ (s : Skeleton) (ok : SkeletonOk s) (p : ℕ) (q : Stack) (i : ℕ) (r : List ℕ) (is : slice_get s.stacks p ≡ Some q) (own : q.own ≡ i ∷ r) (refs : List ℕ) (paths : (x : ℕ) → IsInSkeleton refs x → OnPath s i x) where
  abbrev above : Stack
  above = record q { own = length s.homes ∷ q.own }

  abbrev with_entered : Skeleton
  with_entered = entered_skeleton s p q refs

  at_p : slice_get with_entered.stacks p ≡ Some above
  at_p = get_set s.stacks p above q is

  pub enter_grows : Grows s with_entered
  enter_grows k y e = by (same_or_other p k)
    where
      by : (p ≡ k) ⊎ (p ≡ k → ⊥) → Grown with_entered k y
      by (◌⊎◌.inl f) =
          let same : q ≡ y = some_same is (ap (λ n. slice_get s.stacks n) f ∙ e) in
          let o : (y).own ≡ i ∷ r = ap (λ (z : Stack). z.own) (sym same) ∙ own in
          record {
            stack = above;
            is = ap (λ n. slice_get with_entered.stacks n) (sym f) ∙ at_p;
            inside = λ b n. ◌⊎◌.inr (subst (λ (z : Stack). IsInSkeleton z.own b) (sym same) n);
            next = λ b c n. subst (λ x. NextIn q.critical (length s.homes ∷ x) b c) (sym own) (◌⊎◌.inr (subst (λ x. NextIn x (i ∷ r) b c) (ap (λ (z : Stack). z.critical) (sym same)) (subst (λ x. NextIn y.critical x b c) o n)));
          }
      by (◌⊎◌.inr f) = record { stack = y; is = set_other s.stacks p k above f ∙ e; inside = λ b n. n; next = λ b c n. n }

  stands_i : SkeletonStands s i
  stands_i = record { number = p; stack = q; is = is; inside = subst (λ x. IsInSkeleton x i) (sym own) (◌⊎◌.inl refl) }

  small : (x : ℕ) → IsInSkeleton refs x → x < length s.homes
  small x n = stands_small s ok x (stands_path s ok i x stands_i (paths x n))

  new_home : (x : Home) → slice_get with_entered.homes (length s.homes) ≡ Some x → x ≡ record { refs = refs; process = p }
  new_home x e = some_same e (get_seam s.homes (record { refs = refs; process = p }) [])

  enter_owned : (k : ℕ) (y : Stack) → slice_get with_entered.stacks k ≡ Some y → Owned with_entered.homes k y.own
  enter_owned k y e = by (set_cases s.stacks p k above y e)
    where
      old : Owned s.homes p q.own
      old = ok.owned p q is

      by : ((k ≡ p) × (y ≡ above)) ⊎ ((p ≡ k → ⊥) × (slice_get s.stacks k ≡ Some y)) → Owned with_entered.homes k y.own
      by (◌⊎◌.inl f) =
          subst (λ n. Owned with_entered.homes n y.own) (sym f.0) (subst (λ (z : Stack). Owned with_entered.homes p z.own) (sym f.1) (
            record { refs = refs; process = p },
            get_seam s.homes (record { refs = refs; process = p }) [],
            refl,
            λ b n. owned_small s.homes p q.own b old n,
            owned_front s.homes (record { refs = refs; process = p }) p q.own old,
          ))
      by (◌⊎◌.inr f) = owned_front s.homes (record { refs = refs; process = p }) k y.own (ok.owned k y f.1)

  enter_refers : (b : ℕ) (x : Home) (t : ℕ) → SkeletonStands with_entered b → slice_get with_entered.homes b ≡ Some x → IsInSkeleton x.refs t → OnPath with_entered b t
  enter_refers b x t st e m = by (set_cases s.stacks p st.number above st.stack st.is)
    where
      top : length s.homes ≡ b → OnPath with_entered b t
      top f =
          let next : NextIn q.critical (length s.homes ∷ q.own) (length s.homes) i = subst (λ o. NextIn q.critical (length s.homes ∷ o) (length s.homes) i) (sym own) (◌⊎◌.inl (refl, refl)) in
          let first : SkeletonNext with_entered (length s.homes) i = record { number = p; stack = above; is = at_p; next = next } in
          let is_new : x ≡ record { refs = refs; process = p } = new_home x (ap (λ n. slice_get with_entered.homes n) f ∙ e) in
          let up : OnPath with_entered (length s.homes) t = down first (path_up s with_entered enter_grows i t (paths t (subst (λ (z : Home). IsInSkeleton z.refs t) is_new m))) in
          subst (λ n. OnPath with_entered n t) f up

      older : SkeletonStands s b → OnPath with_entered b t
      older o = old_refers s with_entered ok enter_grows (record { refs = refs; process = p }) refl b x t o e m

      inside : IsInSkeleton (length s.homes ∷ q.own) b → OnPath with_entered b t
      inside (◌⊎◌.inl f) = top f
      inside (◌⊎◌.inr n) = older (record { number = p; stack = q; is = is; inside = n })

      by : ((st.number ≡ p) × (st.stack ≡ above)) ⊎ ((p ≡ st.number → ⊥) × (slice_get s.stacks st.number ≡ Some st.stack)) → OnPath with_entered b t
      by (◌⊎◌.inl f) = inside (subst (λ (z : Stack). IsInSkeleton z.own b) f.1 st.inside)
      by (◌⊎◌.inr f) = older (record { number = st.number; stack = st.stack; is = f.1; inside = st.inside })

  enter_evaluates : (k : ℕ) (y : Stack) (e : Evaluation) → slice_get with_entered.stacks k ≡ Some y → IsEvaluated y.evaluations e → IsInSkeleton y.own e.over × OnPath with_entered e.over e.within
  enter_evaluates k y e g n = by (set_cases s.stacks p k above y g)
    where
      by : ((k ≡ p) × (y ≡ above)) ⊎ ((p ≡ k → ⊥) × (slice_get s.stacks k ≡ Some y)) → IsInSkeleton y.own e.over × OnPath with_entered e.over e.within
      by (◌⊎◌.inl f) =
          let o = ok.evaluates p q e is (subst (λ (z : Stack). IsEvaluated z.evaluations e) f.1 n) in
          (subst (λ (z : Stack). IsInSkeleton z.own e.over) (sym f.1) (◌⊎◌.inr o.0), path_up s with_entered enter_grows e.over e.within o.1)
      by (◌⊎◌.inr f) = let o = ok.evaluates k y e f.1 n in (o.0, path_up s with_entered enter_grows e.over e.within o.1)

  enter_holds : (k : ℕ) (y : Stack) (c : ℕ) → slice_get with_entered.stacks k ≡ Some y → y.live ≡ true → y.critical ≡ Some c → SkeletonStands with_entered c
  enter_holds k y c e live cr = by (set_cases s.stacks p k above y e)
    where
      by : ((k ≡ p) × (y ≡ above)) ⊎ ((p ≡ k → ⊥) × (slice_get s.stacks k ≡ Some y)) → SkeletonStands with_entered c
      by (◌⊎◌.inl f) = stands_up s with_entered enter_grows c (ok.holds p q c is (ap (λ (z : Stack). z.live) (sym f.1) ∙ live) (ap (λ (z : Stack). z.critical) (sym f.1) ∙ cr))
      by (◌⊎◌.inr f) = stands_up s with_entered enter_grows c (ok.holds k y c f.1 live cr)

  enter_ended : (k : ℕ) (y : Stack) → slice_get with_entered.stacks k ≡ Some y → y.live ≡ false → y.own ≡ []
  enter_ended k y e dead = by (set_cases s.stacks p k above y e)
    where
      by : ((k ≡ p) × (y ≡ above)) ⊎ ((p ≡ k → ⊥) × (slice_get s.stacks k ≡ Some y)) → y.own ≡ []
      by (◌⊎◌.inl f) = true_false (lives s ok p q i r is own) (ap (λ (z : Stack). z.live) (sym f.1) ∙ dead)
      by (◌⊎◌.inr f) = ok.ended k y f.1 dead

  pub enter_ok : SkeletonOk with_entered
  enter_ok =
      record {
        owned = enter_owned;
        ended = enter_ended;
        known = all_known s with_entered ok enter_grows (record { refs = refs; process = p }) refl small;
        refers = enter_refers;
        evaluates = enter_evaluates;
        holds = enter_holds;
      }

-- ---- as the base of a new stack

module _ (s : Skeleton) (ok : SkeletonOk s) (c : ℕ) (refs : List ℕ) (stands : SkeletonStands s c) (paths : (x : ℕ) → IsInSkeleton refs x → OnPath s c x) where
  abbrev base : Stack
  base = record { own = length s.homes ∷ []; evaluations = []; critical = Some c; live = true }

  abbrev base_home : Home
  base_home = record { refs = refs; process = length s.stacks }

  abbrev with_started : Skeleton
  with_started = started s refs c

  pub start_grows : Grows s with_started
  start_grows k y e = record { stack = y; is = get_front s.stacks (base ∷ []) k y e; inside = λ b n. n; next = λ b c n. n }

  start_owned : (k : ℕ) (y : Stack) → slice_get with_started.stacks k ≡ Some y → Owned with_started.homes k y.own
  start_owned k y e = by (get_last s.stacks base k y e)
    where
      by : (slice_get s.stacks k ≡ Some y) ⊎ ((k ≡ length s.stacks) × (y ≡ base)) → Owned with_started.homes k y.own
      by (◌⊎◌.inl f) = owned_front s.homes base_home k y.own (ok.owned k y f)
      by (◌⊎◌.inr f) =
          subst (λ n. Owned with_started.homes n y.own) (sym f.0) (subst (λ (z : Stack). Owned with_started.homes (length s.stacks) z.own) (sym f.1)
          (base_home, get_seam s.homes base_home [], refl, λ b n. absurd n, tt))

  start_refers : (b : ℕ) (x : Home) (t : ℕ) → SkeletonStands with_started b → slice_get with_started.homes b ≡ Some x → IsInSkeleton x.refs t → OnPath with_started b t
  start_refers b x t st e m = by (get_last s.stacks base st.number st.stack st.is)
    where
      top : length s.homes ≡ b → OnPath with_started b t
      top f =
          let first : SkeletonNext with_started (length s.homes) c = record { number = length s.stacks; stack = base; is = get_seam s.stacks base []; next = (refl, refl) } in
          let is_new : x ≡ base_home = some_same (ap (λ n. slice_get with_started.homes n) f ∙ e) (get_seam s.homes base_home []) in
          let up : OnPath with_started (length s.homes) t = down first (path_up s with_started start_grows c t (paths t (subst (λ (z : Home). IsInSkeleton z.refs t) is_new m))) in
          subst (λ n. OnPath with_started n t) f up

      inside : IsInSkeleton (length s.homes ∷ []) b → OnPath with_started b t
      inside (◌⊎◌.inl f) = top f
      inside (◌⊎◌.inr n) = absurd n

      by : (slice_get s.stacks st.number ≡ Some st.stack) ⊎ ((st.number ≡ length s.stacks) × (st.stack ≡ base)) → OnPath with_started b t
      by (◌⊎◌.inl f) = old_refers s with_started ok start_grows base_home refl b x t (record { number = st.number; stack = st.stack; is = f; inside = st.inside }) e m
      by (◌⊎◌.inr f) = inside (subst (λ (z : Stack). IsInSkeleton z.own b) f.1 st.inside)

  start_evaluates : (k : ℕ) (y : Stack) (e : Evaluation) → slice_get with_started.stacks k ≡ Some y → IsEvaluated y.evaluations e → IsInSkeleton y.own e.over × OnPath with_started e.over e.within
  start_evaluates k y e g n = by (get_last s.stacks base k y g)
    where
      by : (slice_get s.stacks k ≡ Some y) ⊎ ((k ≡ length s.stacks) × (y ≡ base)) → IsInSkeleton y.own e.over × OnPath with_started e.over e.within
      by (◌⊎◌.inl f) = let o = ok.evaluates k y e f n in (o.0, path_up s with_started start_grows e.over e.within o.1)
      by (◌⊎◌.inr f) = absurd (subst (λ (z : Stack). IsEvaluated z.evaluations e) f.1 n)

  start_holds : (k : ℕ) (y : Stack) (d : ℕ) → slice_get with_started.stacks k ≡ Some y → y.live ≡ true → y.critical ≡ Some d → SkeletonStands with_started d
  start_holds k y d e live cr = by (get_last s.stacks base k y e)
    where
      crit : Some c ≡ Some d → c ≡ d
      crit h = cc

      by : (slice_get s.stacks k ≡ Some y) ⊎ ((k ≡ length s.stacks) × (y ≡ base)) → SkeletonStands with_started d
      by (◌⊎◌.inl f) = stands_up s with_started start_grows d (ok.holds k y d f live cr)
      by (◌⊎◌.inr f) = stands_up s with_started start_grows d (subst (λ n. SkeletonStands s n) (crit (ap (λ (z : Stack). z.critical) (sym f.1) ∙ cr)) stands)

  start_ended : (k : ℕ) (y : Stack) → slice_get with_started.stacks k ≡ Some y → y.live ≡ false → y.own ≡ []
  start_ended k y e dead = by (get_last s.stacks base k y e)
    where
      by : (slice_get s.stacks k ≡ Some y) ⊎ ((k ≡ length s.stacks) × (y ≡ base)) → y.own ≡ []
      by (◌⊎◌.inl f) = ok.ended k y f dead
      by (◌⊎◌.inr f) = true_false (ap (λ (z : Stack). z.live) f.1) dead

  pub start_ok : SkeletonOk with_started
  start_ok =
      record {
        owned = start_owned;
        ended = start_ended;
        known = all_known s with_started ok start_grows base_home refl (λ x n. stands_small s ok x (stands_path s ok c x stands (paths x n)));
        refers = start_refers;
        evaluates = start_evaluates;
        holds = start_holds;
      }
