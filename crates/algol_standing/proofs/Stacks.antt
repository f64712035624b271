-- The skeleton of a world in which a process was set; and what is left of instances that were left.
use Rattle.std.proofs.Common.{◌≡◌, ◌⊎◌, ℕ, zero, suc, ◌<◌, ◌≤◌, List, [], ◌∷◌, ◌++◌, length, map, Some, None, true, false, refl, sym, ap, ◌∙◌, arith}
use Rattle.std.specs.Prelude.{slice_get, slice_set}
use Rattle.b67_list.specs.Numbered.{numbered, set_numbered}
use Rattle.b67_list.proofs.Lists.{get_within, length_map, map_last}
use Rattle.b67_list.proofs.Numbers.{none_some}
use Rattle.algol_meaning.specs.World.{Instance, or_no_instance, instance_at, with_instance, Process, World}
use Rattle.algol_meaning.specs.Instances.{leave}
use Rattle.algol_standing.specs.Skeleton.{Stack, Home, IsInSkeleton}
use Rattle.algol_standing.specs.Worlds.{home_of, stack_of, skeleton}
use Rattle.algol_standing.proofs.Lists.{get_seam, get_last}
use Rattle.algol_standing.proofs.Standing.{set_cases}
use Rattle.algol_standing.proofs.Pairs.{set_or}

-- ---- lists

pub map_set : {A B : Type 0} (f : A → B) (xs : List A) (k : ℕ) (y : A) → map f (slice_set xs k y) ≡ slice_set (map f xs) k (f y)
map_set f [] k y = refl
map_set f (x ∷ xs) zero y = refl
map_set f (x ∷ xs) (suc k) y = ap (λ zs. f x ∷ zs) (map_set f xs k y)

set_before : {A : Type 0} (xs : List A) (k : ℕ) (y z : A) → slice_get (slice_set xs k y) k ≡ Some z → (x : A) × (slice_get xs k ≡ Some x)
set_before [] k y z e = none_some e
set_before (x ∷ xs) zero y z e = (x, refl)
set_before (x ∷ xs) (suc k) y z e = set_before xs k y z e

-- an item after one was set is that, where there was one, or what it was
pub numbered_cases : {A : Type 0} (xs : List A) (j i : ℕ) (y z : A) → numbered (set_numbered xs j y) i ≡ Some z →
    ((j ≡ i) × (z ≡ y) × (x : A) × (numbered xs i ≡ Some x)) ⊎ ((j ≡ i → ⊥) × (numbered xs i ≡ Some z))
numbered_cases xs j zero y z e = none_some e
numbered_cases xs zero (suc i) y z e = ◌⊎◌.inr (λ f. zero_suc f, e)
  where
    zero_suc : 0 ≡ suc i → ⊥
    zero_suc f = cc
numbered_cases {A = A} xs (suc j) (suc i) y z e = by (set_cases xs j i y z e)
  where
    back : suc j ≡ suc i → j ≡ i
    back f = cc

    by : ((i ≡ j) × (z ≡ y)) ⊎ ((j ≡ i → ⊥) × (slice_get xs i ≡ Some z)) →
        ((suc j ≡ suc i) × (z ≡ y) × (x : A) × (slice_get xs i ≡ Some x)) ⊎ ((suc j ≡ suc i → ⊥) × (slice_get xs i ≡ Some z))
    by (◌⊎◌.inl f) = let x = set_before xs i y z (ap (λ k. slice_get (slice_set xs k y) i) f.0 ∙ e) in ◌⊎◌.inl (ap suc (sym f.0), f.1, x.0, x.1)
    by (◌⊎◌.inr f) = ◌⊎◌.inr (λ g. f.0 (back g), f.1)

-- ---- the skeleton

abbrev nobody : Stack
nobody = record { own = []; evaluations = []; critical = None; live = false }

abbrev nowhere : Home
nowhere = record { refs = []; process = 0 }

pub skeleton_with : (w v : World) (p : ℕ) (q after : Process) → numbered w.processes p ≡ Some q → v.processes ≡ set_numbered w.processes p after →
    map home_of v.instances ≡ map home_of w.instances → skeleton v ≡ record (skeleton w) { stacks = slice_set (skeleton w).stacks p (stack_of after) }
skeleton_with w v zero q after is processes homes = none_some is
skeleton_with w v (suc k) q after is processes homes =
    ap (λ (ss : List Stack). record { stacks = nobody ∷ ss; homes = nowhere ∷ map home_of v.instances }) (ap (λ ps. map stack_of ps) processes ∙ map_set stack_of w.processes k after)
    ∙ ap (λ (hs : List Home). record { stacks = nobody ∷ slice_set (map stack_of w.processes) k (stack_of after); homes = nowhere ∷ hs }) homes

-- .. and an instance was added
pub skeleton_entered : (w v : World) (p : ℕ) (q after : Process) (x : Instance) → numbered w.processes p ≡ Some q → v.processes ≡ set_numbered w.processes p after →
    v.instances ≡ w.instances ++ x ∷ [] →
    skeleton v ≡ record { stacks = slice_set (skeleton w).stacks p (stack_of after); homes = (skeleton w).homes ++ home_of x ∷ [] }
skeleton_entered w v zero q after x is processes instances = none_some is
skeleton_entered w v (suc k) q after x is processes instances =
    ap (λ (ss : List Stack). record { stacks = nobody ∷ ss; homes = nowhere ∷ map home_of v.instances }) (ap (λ ps. map stack_of ps) processes ∙ map_set stack_of w.processes k after)
    ∙ ap (λ (hs : List Home). record { stacks = nobody ∷ slice_set (map stack_of w.processes) k (stack_of after); homes = nowhere ∷ hs })
    (ap (λ xs. map home_of xs) instances ∙ map_last home_of w.instances x)

-- an instance and a process were added
pub skeleton_started : (w v : World) (y : Process) (x : Instance) → v.processes ≡ w.processes ++ y ∷ [] → v.instances ≡ w.instances ++ x ∷ [] →
    skeleton v ≡ record { stacks = (skeleton w).stacks ++ stack_of y ∷ []; homes = (skeleton w).homes ++ home_of x ∷ [] }
skeleton_started w v y x processes instances =
    ap (λ (ss : List Stack). record { stacks = nobody ∷ ss; homes = nowhere ∷ map home_of v.instances }) (ap (λ ps. map stack_of ps) processes ∙ map_last stack_of w.processes y)
    ∙ ap (λ (hs : List Home). record { stacks = nobody ∷ map stack_of w.processes ++ stack_of y ∷ []; homes = nowhere ∷ hs })
    (ap (λ xs. map home_of xs) instances ∙ map_last home_of w.instances x)

-- ---- an item that was added

pub numbered_front : {A : Type 0} (xs : List A) (y : A) (i : ℕ) → i ≤ length xs → numbered (xs ++ y ∷ []) i ≡ numbered xs i
numbered_front xs y zero h = refl
numbered_front {A = A} xs y (suc k) h = by xs k (omega (arith, h))
  where
    by : (xs : List A) (k : ℕ) → k < length xs → slice_get (xs ++ y ∷ []) k ≡ slice_get xs k
    by [] k g = absurd (omega (arith, g))
    by (x ∷ xs) zero g = refl
    by (x ∷ xs) (suc k) g = by xs k (omega (arith, g))

pub numbered_new : {A : Type 0} (xs : List A) (y : A) → numbered (xs ++ y ∷ []) (suc (length xs)) ≡ Some y
numbered_new xs y = get_seam xs y []

pub numbered_last : {A : Type 0} (xs : List A) (y : A) (i : ℕ) (z : A) → numbered (xs ++ y ∷ []) i ≡ Some z → (numbered xs i ≡ Some z) ⊎ ((i ≡ suc (length xs)) × (z ≡ y))
numbered_last xs y zero z e = none_some e
numbered_last {A = A} xs y (suc k) z e = by (get_last xs y k z e)
  where
    by : (slice_get xs k ≡ Some z) ⊎ ((k ≡ length xs) × (z ≡ y)) → (slice_get xs k ≡ Some z) ⊎ ((suc k ≡ suc (length xs)) × (z ≡ y))
    by (◌⊎◌.inl f) = ◌⊎◌.inl f
    by (◌⊎◌.inr f) = ◌⊎◌.inr (ap suc f.0, f.1)

pub numbered_small : {A : Type 0} (xs : List A) (i : ℕ) (z : A) → numbered xs i ≡ Some z → i ≤ length xs
numbered_small xs zero z e = none_some e
numbered_small xs (suc k) z e = omega (arith, get_within xs k z e)

-- ---- instances that were left

homes_same : (xs : List Instance) (i : ℕ) → map home_of (set_numbered xs i (record (or_no_instance (numbered xs i)) { left = true })) ≡ map home_of xs
homes_same xs zero = refl
homes_same xs (suc k) = by xs k
  where
    by : (xs : List Instance) (k : ℕ) → map home_of (slice_set xs k (record (or_no_instance (slice_get xs k)) { left = true })) ≡ map home_of xs
    by [] k = refl
    by (x ∷ xs) zero = refl
    by (x ∷ xs) (suc k) = ap (λ hs. home_of x ∷ hs) (by xs k)

pub leave_homes : (w : World) (is : List ℕ) → map home_of (leave w is).instances ≡ map home_of w.instances
leave_homes w [] = refl
leave_homes w (i ∷ is) = leave_homes (with_instance w i (record (instance_at w i) { left = true })) is ∙ homes_same w.instances i

pub leave_length : (w : World) (is : List ℕ) → length (leave w is).instances ≡ length w.instances
leave_length w is = sym (length_map home_of (leave w is).instances) ∙ (ap length (leave_homes w is) ∙ length_map home_of w.instances)

-- what does not tell whether an instance was left stays
module _ {A : Type 0} (g : Instance → A) (same : (x : Instance) → g (record x { left = true }) ≡ g x) where
  pub leave_same : (w : World) (is : List ℕ) (i : ℕ) → g (instance_at (leave w is) i) ≡ g (instance_at w i)
  leave_same w [] i = refl
  leave_same w (j ∷ is) i = leave_same (with_instance w j x) is i ∙ by (set_or w.instances j i x)
    where
      x : Instance
      x = record (instance_at w j) { left = true }

      by : (numbered (set_numbered w.instances j x) i ≡ numbered w.instances i) ⊎ ((j ≡ i) × (numbered (set_numbered w.instances j x) i ≡ Some x)) →
          g (instance_at (with_instance w j x) i) ≡ g (instance_at w i)
      by (◌⊎◌.inl f) = ap (λ o. g (or_no_instance o)) f
      by (◌⊎◌.inr f) = ap (λ o. g (or_no_instance o)) f.1 ∙ (same (instance_at w j) ∙ ap (λ k. g (instance_at w k)) f.0)

-- an instance, which was x, is y once these are left
pub record IsLeftAs (is : List ℕ) (i : ℕ) (x y : Instance) : Type 0 where
  pub block : y.block ≡ x.block
  pub parent : y.parent ≡ x.parent
  pub cells : y.cells ≡ x.cells
  pub left : (IsInSkeleton is i × (y.left ≡ true)) ⊎ ((IsInSkeleton is i → ⊥) × (y.left ≡ x.left))

pub leave_back : (w : World) (is : List ℕ) (i : ℕ) (y : Instance) → numbered (leave w is).instances i ≡ Some y → (x : Instance) × (numbered w.instances i ≡ Some x) × IsLeftAs is i x y
leave_back w [] i y e = (y, e, record { block = refl; parent = refl; cells = refl; left = ◌⊎◌.inr (λ n. n, refl) })
leave_back w (j ∷ is) i y e = by (leave_back (with_instance w j x) is i y e)
  where
    x : Instance
    x = record (instance_at w j) { left = true }

    more : (z : Instance) → (j ≡ i → ⊥) → IsLeftAs is i z y → IsLeftAs (j ∷ is) i z y
    more z other l = record { block = l.block; parent = l.parent; cells = l.cells; left = left l.left }
      where
        not_any : (IsInSkeleton is i → ⊥) → IsInSkeleton (j ∷ is) i → ⊥
        not_any n (◌⊎◌.inl f) = other f
        not_any n (◌⊎◌.inr m) = n m

        left : (IsInSkeleton is i × (y.left ≡ true)) ⊎ ((IsInSkeleton is i → ⊥) × (y.left ≡ z.left)) → (IsInSkeleton (j ∷ is) i × (y.left ≡ true)) ⊎ ((IsInSkeleton (j ∷ is) i → ⊥) × (y.left ≡ z.left))
        left (◌⊎◌.inl f) = ◌⊎◌.inl (◌⊎◌.inr f.0, f.1)
        left (◌⊎◌.inr f) = ◌⊎◌.inr (λ m. not_any f.0 m, f.1)

    -- the one that was left
    this : (z u : Instance) → j ≡ i → z ≡ x → numbered w.instances i ≡ Some u → IsLeftAs is i z y → IsLeftAs (j ∷ is) i u y
    this z u f g h l =
        record {
          block = l.block ∙ ap (λ (v : Instance). v.block) at;
          parent = l.parent ∙ ap (λ (v : Instance). v.parent) at;
          cells = l.cells ∙ ap (λ (v : Instance). v.cells) at;
          left = ◌⊎◌.inl (◌⊎◌.inl f, left l.left);
        }
      where
        at : z ≡ record u { left = true }
        at = g ∙ (ap (λ k. record (instance_at w k) { left = true }) f ∙ ap (λ o. record (or_no_instance o) { left = true }) h)

        left : (IsInSkeleton is i × (y.left ≡ true)) ⊎ ((IsInSkeleton is i → ⊥) × (y.left ≡ z.left)) → y.left ≡ true
        left (◌⊎◌.inl k) = k.1
        left (◌⊎◌.inr k) = k.1 ∙ ap (λ (v : Instance). v.left) at

    by : (z : Instance) × (numbered (set_numbered w.instances j x) i ≡ Some z) × IsLeftAs is i z y → (u : Instance) × (numbered w.instances i ≡ Some u) × IsLeftAs (j ∷ is) i u y
    by m = which m.0 m.2 (numbered_cases w.instances j i x m.0 m.1)
      where
        which : (z : Instance) → IsLeftAs is i z y → ((j ≡ i) × (z ≡ x) × (u : Instance) × (numbered w.instances i ≡ Some u)) ⊎ ((j ≡ i → ⊥) × (numbered w.instances i ≡ Some z)) →
            (u : Instance) × (numbered w.instances i ≡ Some u) × IsLeftAs (j ∷ is) i u y
        which z l (◌⊎◌.inl f) = (f.2, f.3, this z f.2 f.0 f.1 f.3 l)
        which z l (◌⊎◌.inr f) = (z, f.1, more z f.0 l)
