-- Places that are among others, in the same order but for lists of which the one may come before or after the other.
use Rattle.std.proofs.Common.{◌⊎◌, inl, inr, List, [], ◌∷◌, ◌++◌, sym, subst, append-nil, append_assoc}
use Rattle.std.specs.List.{AllByRecursion}
use Rattle.algol_tree.specs.declared.token.Spot.{Spot}
use Rattle.b67_list.proofs.Lists.{each_back, each_both, each_front}
use Rattle.b67_fitting.proofs.Apart.{IsApart, Apart, IsIn, in_front, in_back, in_either, apart_front, apart_back, apart_across, apart_both, each_turned, apart_turned, in_after}

pub data Among : List Spot → List Spot → Type 0 where
  nothing : Among [] []
  skip : (s : Spot) {xs ys : List Spot} → Among xs ys → Among xs (s ∷ ys)
  keep : (s : Spot) {xs ys : List Spot} → Among xs ys → Among (s ∷ xs) (s ∷ ys)
  turn : (s : Spot) (p q r : List Spot) {xs : List Spot} → Among xs (s ∷ ((p ++ q) ++ r)) → Among xs (s ∷ ((q ++ p) ++ r))

pub none_among : (ys : List Spot) → Among [] ys
none_among [] = nothing
none_among (y ∷ ys) = skip y (none_among ys)

-- of the places after the first those of one list come before those of the other
pub turn_after : (s : Spot) (p q : List Spot) {xs : List Spot} → Among xs (s ∷ (p ++ q)) → Among xs (s ∷ (q ++ p))
turn_after s p q {xs} a =
    subst (λ (z : List Spot). Among xs (s ∷ z)) (append-nil (q ++ p)) (turn s p q [] (subst (λ (z : List Spot). Among xs (s ∷ z)) (sym (append-nil (p ++ q))) a))

pub join : {xs ys vs ws : List Spot} → Among xs ys → Among vs ws → Among (xs ++ vs) (ys ++ ws)
join nothing b = b
join (skip s a) b = skip s (join a b)
join (keep s a) b = keep s (join a b)
join {vs = vs} {ws = ws} (turn s p q r {xs = us} a) b =
    subst (λ (z : List Spot). Among (us ++ vs) (s ∷ z)) (sym (append_assoc (q ++ p) r ws))
    (turn s p q (r ++ ws) (subst (λ (z : List Spot). Among (us ++ vs) (s ∷ z)) (append_assoc (p ++ q) r ws) (join a b)))

pub each_among : {xs ys : List Spot} (P : Spot → Type 0) → Among xs ys → AllByRecursion P ys → AllByRecursion P xs
each_among P nothing h = tt
each_among P (skip s a) h = each_among P a h.1
each_among P (keep s a) h = (h.0, each_among P a h.1)
each_among P (turn s p q r a) h =
    each_among P a (h.0, each_both P (p ++ q) r (each_turned P p q (each_front P (q ++ p) r h.1)) (each_back P (q ++ p) r h.1))

-- places in which the lists come the other way are apart as well
turned_apart : (s : Spot) (p q r : List Spot) → Apart (s ∷ ((q ++ p) ++ r)) → Apart (s ∷ ((p ++ q) ++ r))
turned_apart s p q r h = (
  each_both (IsApart s) (p ++ q) r (each_turned (IsApart s) p q (each_front (IsApart s) (q ++ p) r h.0)) (each_back (IsApart s) (q ++ p) r h.0),
  apart_both (p ++ q) r (apart_turned p q (apart_front (q ++ p) r h.1)) (apart_back (q ++ p) r h.1)
      (each_turned (λ t. AllByRecursion (IsApart t) r) p q (apart_across (q ++ p) r h.1)),
)

pub apart_among : {xs ys : List Spot} → Among xs ys → Apart ys → Apart xs
apart_among nothing h = tt
apart_among (skip s a) h = apart_among a h.1
apart_among (keep s a) h = (each_among (IsApart s) a h.0, apart_among a h.1)
apart_among (turn s p q r a) h = apart_among a (turned_apart s p q r h)

-- a place is in them whichever list comes first
in_turned : (x s : Spot) (p q r : List Spot) → IsIn x (s ∷ ((p ++ q) ++ r)) → IsIn x (s ∷ ((q ++ p) ++ r))
in_turned x s p q r (inl e) = inl e
in_turned x s p q r (inr i) = by (in_either x (p ++ q) r i)
  where
    first : IsIn x (s ∷ (q ++ p)) → IsIn x (s ∷ ((q ++ p) ++ r))
    first (inl e) = inl e
    first (inr j) = inr (in_front x (q ++ p) r j)

    by : IsIn x (p ++ q) ⊎ IsIn x r → IsIn x (s ∷ ((q ++ p) ++ r))
    by (inl j) = first (in_after x s p q (inr j))
    by (inr j) = inr (in_back x (q ++ p) r j)

pub in_among : {xs ys : List Spot} (s : Spot) → Among xs ys → IsIn s xs → IsIn s ys
in_among s nothing i = i
in_among s (skip t a) i = inr (in_among s a i)
in_among s (keep t a) (inl e) = inl e
in_among s (keep t a) (inr i) = inr (in_among s a i)
in_among s (turn t p q r a) i = in_turned s t p q r (in_among s a i)
