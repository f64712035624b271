-- Lists of one length whose items are alike in pairs; and the stacks and homes of a world.
use Rattle.std.proofs.Common.{◌≡◌, ◌⊎◌, ℕ, zero, suc, List, [], ◌∷◌, length, map, Some, None, refl, ap, subst, false}
use Rattle.std.specs.Prelude.{slice_get, slice_set}
use Rattle.b67_list.specs.Numbered.{numbered, set_numbered}
use Rattle.b67_list.proofs.Numbers.{none_some}
use Rattle.algol_meaning.specs.World.{Instance, Process, World}
use Rattle.algol_standing.specs.Skeleton.{Stack}
use Rattle.algol_standing.specs.Worlds.{home_of, stack_of, skeleton}

pub map_back : {A B : Type 0} (f : A → B) (xs : List A) (k : ℕ) (z : B) → slice_get (map f xs) k ≡ Some z → (x : A) × (slice_get xs k ≡ Some x) × (z ≡ f x)
map_back f [] k z e = none_some e
map_back f (x ∷ xs) zero z e = (x, refl, cc)
map_back f (x ∷ xs) (suc k) z e = map_back f xs k z e

pub map_forth : {A B : Type 0} (f : A → B) (xs : List A) (k : ℕ) (x : A) → slice_get xs k ≡ Some x → slice_get (map f xs) k ≡ Some (f x)
map_forth f [] k x e = none_some e
map_forth f (y ∷ xs) zero x e = cc
map_forth f (y ∷ xs) (suc k) x e = map_forth f xs k x e

abbrev pub AllPairs : {A : Type 0} → (A → A → Type 0) → List A → List A → Type 0
AllPairs R [] [] = Unit {0}
AllPairs R (x ∷ xs) (y ∷ ys) = R x y × AllPairs R xs ys
AllPairs R _ _ = ⊥

module _ {A : Type 0} (R : A → A → Type 0) where
  back : (xs ys : List A) (k : ℕ) (y : A) → AllPairs R xs ys → slice_get ys k ≡ Some y → (x : A) × (slice_get xs k ≡ Some x) × R x y
  back [] [] k y m e = none_some e
  back [] (z ∷ ys) k y m e = absurd m
  back (x ∷ xs) [] k y m e = absurd m
  back (x ∷ xs) (z ∷ ys) zero y m e = let same : z ≡ y = cc in (x, refl, subst (λ o. R x o) same m.0)
  back (x ∷ xs) (z ∷ ys) (suc k) y m e = back xs ys k y m.1 e

  forth : (xs ys : List A) (k : ℕ) (x : A) → AllPairs R xs ys → slice_get xs k ≡ Some x → (y : A) × (slice_get ys k ≡ Some y) × R x y
  forth [] [] k x m e = none_some e
  forth [] (z ∷ ys) k x m e = absurd m
  forth (z ∷ xs) [] k x m e = absurd m
  forth (z ∷ xs) (y ∷ ys) zero x m e = let same : z ≡ x = cc in (y, refl, subst (λ o. R o y) same m.0)
  forth (z ∷ xs) (y ∷ ys) (suc k) x m e = forth xs ys k x m.1 e

  pub numbered_back : (xs ys : List A) (i : ℕ) (y : A) → AllPairs R xs ys → numbered ys i ≡ Some y → (x : A) × (numbered xs i ≡ Some x) × R x y
  numbered_back xs ys zero y m e = none_some e
  numbered_back xs ys (suc k) y m e = back xs ys k y m e

  pub numbered_forth : (xs ys : List A) (i : ℕ) (x : A) → AllPairs R xs ys → numbered xs i ≡ Some x → (y : A) × (numbered ys i ≡ Some y) × R x y
  numbered_forth xs ys zero x m e = none_some e
  numbered_forth xs ys (suc k) x m e = forth xs ys k x m e

  pub pairs_length : (xs ys : List A) → AllPairs R xs ys → length ys ≡ length xs
  pairs_length [] [] m = refl
  pairs_length [] (y ∷ ys) m = absurd m
  pairs_length (x ∷ xs) [] m = absurd m
  pairs_length (x ∷ xs) (y ∷ ys) m = ap suc (pairs_length xs ys m.1)

  module _ (self : (x : A) → R x x) where
    pub pairs_self : (xs : List A) → AllPairs R xs xs
    pairs_self [] = tt
    pairs_self (x ∷ xs) = (self x, pairs_self xs)

    -- one item changes
    set : (xs : List A) (k : ℕ) (y : A) → ((x : A) → slice_get xs k ≡ Some x → R x y) → AllPairs R xs (slice_set xs k y)
    set [] k y f = tt
    set (x ∷ xs) zero y f = (f x refl, pairs_self xs)
    set (x ∷ xs) (suc k) y f = (self x, set xs k y f)

    pub pairs_set : (xs : List A) (i : ℕ) (y : A) → ((x : A) → numbered xs i ≡ Some x → R x y) → AllPairs R xs (set_numbered xs i y)
    pairs_set xs zero y f = pairs_self xs
    pairs_set xs (suc k) y f = set xs k y f

  pub pairs_then : ((x y z : A) → R x y → R y z → R x z) → (xs ys zs : List A) → AllPairs R xs ys → AllPairs R ys zs → AllPairs R xs zs
  pairs_then t [] [] [] m n = tt
  pairs_then t [] [] (z ∷ zs) m n = absurd n
  pairs_then t [] (y ∷ ys) zs m n = absurd m
  pairs_then t (x ∷ xs) [] zs m n = absurd m
  pairs_then t (x ∷ xs) (y ∷ ys) [] m n = absurd n
  pairs_then t (x ∷ xs) (y ∷ ys) (z ∷ zs) m n = (t x y z m.0 n.0, pairs_then t xs ys zs m.1 n.1)

pub pairs_map : {A : Type 0} (R S : A → A → Type 0) → ((x y : A) → R x y → S x y) → (xs ys : List A) → AllPairs R xs ys → AllPairs S xs ys
pairs_map R S f [] [] m = tt
pairs_map R S f [] (y ∷ ys) m = absurd m
pairs_map R S f (x ∷ xs) [] m = absurd m
pairs_map R S f (x ∷ xs) (y ∷ ys) m = (f x y m.0, pairs_map R S f xs ys m.1)

-- after a change of all, one item changes once more
module _ {A : Type 0} (R S : A → A → Type 0) (f : (x y : A) → R x y → S x y) where
  set_then : (xs ys : List A) (k : ℕ) (z : A) → AllPairs R xs ys → ((x : A) → slice_get xs k ≡ Some x → S x z) → AllPairs S xs (slice_set ys k z)
  set_then [] [] k z m g = tt
  set_then [] (y ∷ ys) k z m g = absurd m
  set_then (x ∷ xs) [] k z m g = absurd m
  set_then (x ∷ xs) (y ∷ ys) zero z m g = (g x refl, pairs_map R S f xs ys m.1)
  set_then (x ∷ xs) (y ∷ ys) (suc k) z m g = (f x y m.0, set_then xs ys k z m.1 g)

  pub pairs_then_set : (xs ys : List A) (i : ℕ) (z : A) → AllPairs R xs ys → ((x : A) → numbered xs i ≡ Some x → S x z) → AllPairs S xs (set_numbered ys i z)
  pairs_then_set xs ys zero z m g = pairs_map R S f xs ys m
  pairs_then_set xs ys (suc k) z m g = set_then xs ys k z m g

-- in both lists one item is set to the same
pub pairs_set_both : {A : Type 0} (R : A → A → Type 0) (xs ys : List A) (i : ℕ) (z : A) → R z z → AllPairs R xs ys → AllPairs R (set_numbered xs i z) (set_numbered ys i z)
pairs_set_both R xs ys zero z self m = m
pairs_set_both {A = A} R xs ys (suc k) z self m = by xs ys k m
  where
    by : (xs ys : List A) (k : ℕ) → AllPairs R xs ys → AllPairs R (slice_set xs k z) (slice_set ys k z)
    by [] [] k m = m
    by [] (y ∷ ys) k m = absurd m
    by (x ∷ xs) [] k m = absurd m
    by (x ∷ xs) (y ∷ ys) zero m = (self, m.1)
    by (x ∷ xs) (y ∷ ys) (suc k) m = (m.0, by xs ys k m.1)

-- an item after one was set is that, or what it was
pub set_or : {A : Type 0} (xs : List A) (i j : ℕ) (y : A) → (numbered (set_numbered xs i y) j ≡ numbered xs j) ⊎ ((i ≡ j) × (numbered (set_numbered xs i y) j ≡ Some y))
set_or xs zero j y = ◌⊎◌.inl refl
set_or xs (suc i) zero y = ◌⊎◌.inl refl
set_or {A = A} xs (suc i) (suc j) y = by xs i j
  where
    up : (zs : List A) (i j : ℕ) (z : A) → (slice_get (slice_set zs i y) j ≡ slice_get zs j) ⊎ ((suc i ≡ suc j) × (slice_get (slice_set zs i y) j ≡ Some y)) →
        (slice_get (slice_set (z ∷ zs) (suc i) y) (suc j) ≡ slice_get (z ∷ zs) (suc j)) ⊎ ((suc (suc i) ≡ suc (suc j)) × (slice_get (slice_set (z ∷ zs) (suc i) y) (suc j) ≡ Some y))
    up zs i j z (◌⊎◌.inl e) = ◌⊎◌.inl e
    up zs i j z (◌⊎◌.inr e) = ◌⊎◌.inr (ap suc e.0, e.1)

    by : (zs : List A) (i j : ℕ) → (slice_get (slice_set zs i y) j ≡ slice_get zs j) ⊎ ((suc i ≡ suc j) × (slice_get (slice_set zs i y) j ≡ Some y))
    by [] i j = ◌⊎◌.inl refl
    by (z ∷ zs) zero zero = ◌⊎◌.inr (refl, refl)
    by (z ∷ zs) zero (suc j) = ◌⊎◌.inl refl
    by (z ∷ zs) (suc i) zero = ◌⊎◌.inl refl
    by (z ∷ zs) (suc i) (suc j) = up zs i j z (by zs i j)

-- ---- the stacks and homes of a world

pub stack_forth : (w : World) (k : ℕ) (q : Process) → numbered w.processes k ≡ Some q → slice_get (skeleton w).stacks k ≡ Some (stack_of q)
stack_forth w zero q e = none_some e
stack_forth w (suc k) q e = map_forth stack_of w.processes k q e

pub home_forth : (w : World) (i : ℕ) (x : Instance) → numbered w.instances i ≡ Some x → slice_get (skeleton w).homes i ≡ Some (home_of x)
home_forth w zero x e = none_some e
home_forth w (suc k) x e = map_forth home_of w.instances k x e

pub stack_back : (w : World) (k : ℕ) (z : Stack) → slice_get (skeleton w).stacks k ≡ Some z →
    ((z.own ≡ []) × (z.evaluations ≡ []) × (z.live ≡ false)) ⊎ ((q : Process) × (numbered w.processes k ≡ Some q) × (z ≡ stack_of q))
stack_back w zero z e = ◌⊎◌.inl (ap (λ (s : Stack). s.own) (same z e), ap (λ (s : Stack). s.evaluations) (same z e), ap (λ (s : Stack). s.live) (same z e))
  where
    nobody : Stack
    nobody = record { own = []; evaluations = []; critical = None; live = false }

    same : (z : Stack) → Some nobody ≡ Some z → z ≡ nobody
    same z e = cc
stack_back w (suc k) z e = ◌⊎◌.inr (map_back stack_of w.processes k z e)
