-- Places that ascend are apart from one another.
use Rattle.std.proofs.Common.{arith, ◌≡◌, ◌⊎◌, inl, inr, true, false, List, [], ◌∷◌, ◌++◌, map, refl, sym, ap, subst}
use Rattle.std.proofs.lemmas.Bool.Decides.{nat_tests}
use Rattle.std.specs.List.{flat_map, AllByRecursion}
use Rattle.algol_tree.specs.declared.token.Spot.{Spot}
use Rattle.algol_tree.specs.Accepted.{is_before}
use Rattle.algol_tree.specs.Ascending.{IsAhead, Ascends}
use Rattle.algol_tree.specs.Blocks.{same_spot}
use Rattle.algol_tree.proofs.Spots.{before_on}
use Rattle.b67_list.proofs.Lists.{each_back, each_both, each_front}
use Rattle.b67_fitting.proofs.Lists.{each_of}

abbrev pub IsIn : {X : Type 0} → X → List X → Type 0
IsIn x [] = ⊥
IsIn x (y ∷ ys) = (x ≡ y) ⊎ IsIn x ys

pub each_in : {X : Type 0} (P : X → Type 0) (x : X) (xs : List X) → AllByRecursion P xs → IsIn x xs → P x
each_in P x [] h i = absurd i
each_in P x (y ∷ ys) h (inl e) = subst P (sym e) h.0
each_in P x (y ∷ ys) h (inr i) = each_in P x ys h.1 i

pub in_each : {X : Type 0} (P : X → Type 0) (xs : List X) → ((x : X) → IsIn x xs → P x) → AllByRecursion P xs
in_each P [] f = tt
in_each P (x ∷ xs) f = (f x (inl refl), in_each P xs (λ y i. f y (inr i)))

pub in_back : {X : Type 0} (x : X) (xs ys : List X) → IsIn x ys → IsIn x (xs ++ ys)
in_back x [] ys i = i
in_back x (z ∷ xs) ys i = inr (in_back x xs ys i)

pub in_front : {X : Type 0} (x : X) (xs ys : List X) → IsIn x xs → IsIn x (xs ++ ys)
in_front x [] ys i = absurd i
in_front x (z ∷ xs) ys (inl e) = inl e
in_front x (z ∷ xs) ys (inr i) = inr (in_front x xs ys i)

pub in_either : {X : Type 0} (x : X) (xs ys : List X) → IsIn x (xs ++ ys) → IsIn x xs ⊎ IsIn x ys
in_either x [] ys i = inr i
in_either x (z ∷ xs) ys (inl e) = inl (inl e)
in_either x (z ∷ xs) ys (inr i) = later (in_either x xs ys i)
  where
    later : IsIn x xs ⊎ IsIn x ys → IsIn x (z ∷ xs) ⊎ IsIn x ys
    later (inl j) = inl (inr j)
    later (inr j) = inr j

-- what one of them gives is among what all give
pub in_flat : {X Y : Type 0} (f : X → List Y) (x : X) (y : Y) (xs : List X) → IsIn x xs → IsIn y (f x) → IsIn y (flat_map f xs)
in_flat f x y [] i j = absurd i
in_flat f x y (z ∷ xs) (inl e) j = in_front y (f z) (flat_map f xs) (subst (λ w. IsIn y (f w)) e j)
in_flat f x y (z ∷ xs) (inr i) j = in_back y (f z) (flat_map f xs) (in_flat f x y xs i j)

pub in_map : {X Y : Type 0} (f : X → Y) (x : X) (xs : List X) → IsIn x xs → IsIn (f x) (map f xs)
in_map f x [] i = absurd i
in_map f x (y ∷ ys) (inl e) = inl (ap f e)
in_map f x (y ∷ ys) (inr i) = inr (in_map f x ys i)

-- ---- apart

abbrev pub IsApart : Spot → Spot → Type 0
IsApart s t = same_spot s t ≡ false

abbrev pub Apart : List Spot → Type 0
Apart [] = Unit {0}
Apart (s ∷ spots) = AllByRecursion (IsApart s) spots × Apart spots

pub apart_sym : (s t : Spot) → IsApart s t → IsApart t s
apart_sym s t h = grind (arith, nat_tests)

ahead_on : (a b : Spot) (spots : List Spot) → is_before a b ≡ true → IsAhead b spots → IsAhead a spots
ahead_on a b [] p q = tt
ahead_on a b (c ∷ spots) p q = before_on a b c p q

before_apart : (a b : Spot) → is_before a b ≡ true → IsApart a b
before_apart a b p = grind (arith, nat_tests)

ahead_apart : (s : Spot) (spots : List Spot) → IsAhead s spots → Ascends spots → AllByRecursion (IsApart s) spots
ahead_apart s [] h o = tt
ahead_apart s (t ∷ spots) h o = (before_apart s t h, ahead_apart s spots (ahead_on s t spots h o.0) o.1)

pub ascending_apart : (spots : List Spot) → Ascends spots → Apart spots
ascending_apart [] o = tt
ascending_apart (s ∷ spots) o = (ahead_apart s spots o.0 o.1, ascending_apart spots o.1)

pub apart_front : (xs ys : List Spot) → Apart (xs ++ ys) → Apart xs
apart_front [] ys h = tt
apart_front (x ∷ xs) ys h = (each_front (IsApart x) xs ys h.0, apart_front xs ys h.1)

pub apart_back : (xs ys : List Spot) → Apart (xs ++ ys) → Apart ys
apart_back [] ys h = h
apart_back (x ∷ xs) ys h = apart_back xs ys h.1

pub apart_across : (xs ys : List Spot) → Apart (xs ++ ys) → AllByRecursion (λ s. AllByRecursion (IsApart s) ys) xs
apart_across [] ys h = tt
apart_across (x ∷ xs) ys h = (each_back (IsApart x) xs ys h.0, apart_across xs ys h.1)

pub apart_both : (xs ys : List Spot) → Apart xs → Apart ys → AllByRecursion (λ s. AllByRecursion (IsApart s) ys) xs → Apart (xs ++ ys)
apart_both [] ys g h a = h
apart_both (x ∷ xs) ys g h a = (each_both (IsApart x) xs ys g.0 a.0, apart_both xs ys g.1 h a.1)

-- whichever of two lists comes first
pub each_turned : (P : Spot → Type 0) (p q : List Spot) → AllByRecursion P (q ++ p) → AllByRecursion P (p ++ q)
each_turned P p q h = each_both P p q (each_back P q p h) (each_front P q p h)

pub apart_turned : (p q : List Spot) → Apart (q ++ p) → Apart (p ++ q)
apart_turned p q h = apart_both p q (apart_back q p h) (apart_front q p h) (in_each (λ s. AllByRecursion (IsApart s) q) p one)
  where
    one : (s : Spot) → IsIn s p → AllByRecursion (IsApart s) q
    one s i = in_each (IsApart s) q (λ t j. apart_sym t s (each_in (IsApart t) s p (each_in (λ t. AllByRecursion (IsApart t) p) t q (apart_across q p h) j) i))

-- .. after a place
pub apart_after : (s : Spot) (p q : List Spot) → Apart (s ∷ (q ++ p)) → Apart (s ∷ (p ++ q))
apart_after s p q h = (each_turned (IsApart s) p q h.0, apart_turned p q h.1)

pub in_after : (x s : Spot) (p q : List Spot) → IsIn x (s ∷ (p ++ q)) → IsIn x (s ∷ (q ++ p))
in_after x s p q (inl e) = inl e
in_after x s p q (inr i) = by (in_either x p q i)
  where
    by : IsIn x p ⊎ IsIn x q → IsIn x (s ∷ (q ++ p))
    by (inl j) = inr (in_back x q p j)
    by (inr j) = inr (in_front x q p j)

-- all of these are apart from a place of those
pub apart_from : (xs ys : List Spot) (spot : Spot) → Apart (xs ++ ys) → IsIn spot ys → AllByRecursion (λ s. IsApart s spot) xs
apart_from xs ys spot h i =
    each_of (λ s. AllByRecursion (IsApart s) ys) (λ s. IsApart s spot) xs (λ s g. each_in (IsApart s) spot ys g i) (apart_across xs ys h)
