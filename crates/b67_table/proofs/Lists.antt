-- Lists by number, in which an item is put where it stands.
use Rattle.std.proofs.Common.{◌≡◌, refl, ℕ, zero, suc, ◌<◌, ◌≤◌, List, [], ◌∷◌, ◌++◌, length, take, drop, set, Some, arith}
use Rattle.std.specs.Prelude.{slice_get}
use Rattle.b67_list.specs.Numbered.{numbered, set_numbered}
use Rattle.b67_list.proofs.Lists.{get_within}

pub numbered_within : {X : Type 0} (xs : List X) (q : ℕ) (x : X) → numbered xs q ≡ Some x → q ≤ length xs
numbered_within xs zero x e = omega arith
numbered_within xs (suc k) x e = omega (arith, get_within xs k x e)

pub get_set : {X : Type 0} (xs : List X) (n : ℕ) (a : X) → n < length xs → slice_get (set xs n a) n ≡ Some a
get_set [] n a h = absurd (omega (arith, h))
get_set (x ∷ xs) zero a h = refl
get_set (x ∷ xs) (suc n) a h = get_set xs n a (omega (arith, h))

pub numbered_set : {X : Type 0} (xs : List X) (q : ℕ) (a : X) → 1 ≤ q → q ≤ length xs → numbered (set_numbered xs q a) q ≡ Some a
numbered_set xs zero a o h = absurd (omega (arith, o))
numbered_set xs (suc k) a o h = get_set xs k a (omega (arith, h))

pub numbered_from : {X : Type 0} (xs : List X) (q : ℕ) (x : X) → numbered xs q ≡ Some x → 1 ≤ q
numbered_from xs zero x e = cc
numbered_from xs (suc k) x e = omega arith

-- the words above the base are those that were put there
pub above_put : {X : Type 0} (xs ys : List X) (base : ℕ) → base ≤ length xs → drop base (take base xs ++ ys) ≡ ys
above_put xs ys zero h = refl
above_put [] ys (suc base) h = absurd (omega (arith, h))
above_put (x ∷ xs) ys (suc base) h = above_put xs ys base (omega (arith, h))
