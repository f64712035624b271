-- Places that are all different, as they are in the order of a text.
use Rattle.std.proofs.Common.{◌≡◌, ◌⊎◌, inl, inr, true, false, List, [], ◌∷◌, ◌++◌, refl, sym, subst, arith, append-nil}
use Rattle.std.proofs.lemmas.Grind.{flat_map-append}
use Rattle.std.specs.List.{AllByRecursion, flat_map}
use Rattle.algol_tree.specs.declared.token.Spot.{Spot}
use Rattle.algol_tree.specs.Blocks.{same_spot}
use Rattle.algol_tree.specs.Accepted.{is_before}
use Rattle.algol_tree.specs.Ascending.{Ascends}
use Rattle.algol_tree.proofs.Spots.{before_apart, before_on}
use Rattle.algol_told.proofs.Lists.{IsIn, in_left, in_right, of_in, all_append, all_left, all_right, all_weaker}

abbrev pub IsBefore : Spot → Spot → Type 0
IsBefore s t = is_before s t ≡ true

abbrev pub IsApart : Spot → Spot → Type 0
IsApart s t = same_spot s t ≡ false

abbrev pub Ordered : List Spot → Type 0
Ordered [] = Unit {0}
Ordered (s ∷ ss) = AllByRecursion (IsBefore s) ss × Ordered ss

abbrev pub AreApart : List Spot → Type 0
AreApart [] = Unit {0}
AreApart (s ∷ ss) = AllByRecursion (IsApart s) ss × AreApart ss

behind_apart : (a b : Spot) → is_before a b ≡ true → same_spot b a ≡ false
behind_apart a b h = grind arith

pub apart_turned : (a b : Spot) → IsApart a b → IsApart b a
apart_turned a b h = grind arith

pub ordered : (ss : List Spot) → Ascends ss → Ordered ss
ordered [] h = tt
ordered (s ∷ []) h = (tt, tt)
ordered (s ∷ t ∷ ts) h =
    let k = ordered (t ∷ ts) h.1 in ((h.0, all_weaker (IsBefore t) (IsBefore s) (λ u b. before_on s t u h.0 b) ts k.0), k)

ordered_left : (us vs : List Spot) → Ordered (us ++ vs) → Ordered us
ordered_left [] vs h = tt
ordered_left (u ∷ us) vs h = (left us h.0, ordered_left us vs h.1)
  where
    left : (ws : List Spot) → AllByRecursion (IsBefore u) (ws ++ vs) → AllByRecursion (IsBefore u) ws
    left [] k = tt
    left (w ∷ ws) k = (k.0, left ws k.1)

ordered_right : (us vs : List Spot) → Ordered (us ++ vs) → Ordered vs
ordered_right [] vs h = h
ordered_right (u ∷ us) vs h = ordered_right us vs h.1

-- each of the first places is before each of the others
across : (us vs : List Spot) (x y : Spot) → Ordered (us ++ vs) → IsIn us x → IsIn vs y → IsBefore x y
across [] vs x y o h k = absurd h
across (u ∷ us) vs x y o (inl h) k =
    let P : Spot → Type 0 = λ z. IsBefore z y in subst P h (of_in (IsBefore u) vs y (all_right (IsBefore u) us vs o.0) k)
across (u ∷ us) vs x y o (inr h) k = across us vs x y o.1 h k

-- ---- places of a list, in any order, and all different where that list is in order

pub record Fits (xs us : List Spot) : Type 0 where
  pub among : AllByRecursion (IsIn us) xs
  pub apart : Ordered us → AreApart xs

pub none_fits : (us : List Spot) → Fits [] us
none_fits us = record { among = tt; apart = λ o. tt }

pub skip_fits : (u : Spot) (xs us : List Spot) → Fits xs us → Fits xs (u ∷ us)
skip_fits u xs us f = record { among = all_weaker (IsIn us) (IsIn (u ∷ us)) (λ x h. inr h) xs f.among; apart = λ o. f.apart o.1 }

pub take_fits : (u : Spot) (xs us : List Spot) → Fits xs us → Fits (u ∷ xs) (u ∷ us)
take_fits u xs us f =
    record {
      among = (inl refl, all_weaker (IsIn us) (IsIn (u ∷ us)) (λ x h. inr h) xs f.among);
      apart = λ o. (all_weaker (IsIn us) (IsApart u) (λ x h. before_apart u x (of_in (IsBefore u) us x o.0 h)) xs f.among, f.apart o.1);
    }

pub drop_fits : (x : Spot) (xs us : List Spot) → Fits (x ∷ xs) us → Fits xs us
drop_fits x xs us f = record { among = f.among.1; apart = λ o. (f.apart o).1 }

pub ahead_fits : (xs us vs : List Spot) → Fits xs us → Fits xs (us ++ vs)
ahead_fits xs us vs f =
    record { among = all_weaker (IsIn us) (IsIn (us ++ vs)) (λ x h. in_left us vs x h) xs f.among; apart = λ o. f.apart (ordered_left us vs o) }

apart_append : (xs ys : List Spot) → AreApart xs → AreApart ys → AllByRecursion (λ (x : Spot). AllByRecursion (IsApart x) ys) xs → AreApart (xs ++ ys)
apart_append [] ys a b c = b
apart_append (x ∷ xs) ys a b c = (all_append (IsApart x) xs ys a.0 c.0, apart_append xs ys a.1 b c.1)

module _ (xs ys us vs : List Spot) (f : Fits xs us) (g : Fits ys vs) where
  both_apart : Ordered (us ++ vs) → AllByRecursion (λ (x : Spot). AllByRecursion (IsApart x) ys) xs
  both_apart o =
      all_weaker (IsIn us) (λ (x : Spot). AllByRecursion (IsApart x) ys)
      (λ x h. all_weaker (IsIn vs) (IsApart x) (λ y k. before_apart x y (across us vs x y o h k)) ys g.among) xs f.among

  turned_apart : Ordered (us ++ vs) → AllByRecursion (λ (y : Spot). AllByRecursion (IsApart y) xs) ys
  turned_apart o =
      all_weaker (IsIn vs) (λ (y : Spot). AllByRecursion (IsApart y) xs)
      (λ y k. all_weaker (IsIn us) (IsApart y) (λ x h. behind_apart x y (across us vs x y o h k)) xs f.among) ys g.among

  left_among : AllByRecursion (IsIn (us ++ vs)) xs
  left_among = all_weaker (IsIn us) (IsIn (us ++ vs)) (λ x h. in_left us vs x h) xs f.among

  right_among : AllByRecursion (IsIn (us ++ vs)) ys
  right_among = all_weaker (IsIn vs) (IsIn (us ++ vs)) (λ y h. in_right us vs y h) ys g.among

  pub both_fit : Fits (xs ++ ys) (us ++ vs)
  both_fit =
      record {
        among = all_append (IsIn (us ++ vs)) xs ys left_among right_among;
        apart = λ o. apart_append xs ys (f.apart (ordered_left us vs o)) (g.apart (ordered_right us vs o)) (both_apart o);
      }

  -- the same where the later places stand first
  pub turned_fit : Fits (ys ++ xs) (us ++ vs)
  turned_fit =
      record {
        among = all_append (IsIn (us ++ vs)) ys xs right_among left_among;
        apart = λ o. apart_append ys xs (g.apart (ordered_right us vs o)) (f.apart (ordered_left us vs o)) (turned_apart o);
      }

pub all_fit : (us : List Spot) → Fits us us
all_fit [] = none_fits []
all_fit (u ∷ us) = take_fits u us us (all_fit us)

pub nil_fits : (xs us : List Spot) → Fits xs us → Fits (xs ++ []) us
nil_fits xs us f = let P : List Spot → Type 0 = λ zs. Fits zs us in subst P (sym (append-nil xs)) f

pub flat_fit : {X : Type 0} (f : X → List Spot) (xs ys : List X) (us vs : List Spot) → Fits (flat_map f xs) us → Fits (flat_map f ys) vs →
    Fits (flat_map f (xs ++ ys)) (us ++ vs)
flat_fit f xs ys us vs h k =
    let P : List Spot → Type 0 = λ zs. Fits zs (us ++ vs) in
    subst P (sym (flat_map-append f xs ys)) (both_fit (flat_map f xs) (flat_map f ys) us vs h k)

pub ascending_apart : (us : List Spot) → Ascends us → AreApart us
ascending_apart us h = (all_fit us).apart (ordered us h)

pub apart_left : (us vs : List Spot) → AreApart (us ++ vs) → AreApart us
apart_left [] vs h = tt
apart_left (u ∷ us) vs h = (all_left (IsApart u) us vs h.0, apart_left us vs h.1)

pub apart_right : (us vs : List Spot) → AreApart (us ++ vs) → AreApart vs
apart_right [] vs h = h
apart_right (u ∷ us) vs h = apart_right us vs h.1

-- ---- some of the places of a list, in its order

abbrev pub AreSome : List Spot → List Spot → Type 0
AreSome [] ys = Unit {0}
AreSome (x ∷ xs) [] = ⊥
AreSome (x ∷ xs) (y ∷ ys) = ((x ≡ y) × AreSome xs ys) ⊎ AreSome (x ∷ xs) ys

pub some_more : (y : Spot) (xs ys : List Spot) → AreSome xs ys → AreSome xs (y ∷ ys)
some_more y [] ys h = tt
some_more y (x ∷ xs) ys h = inr h

pub some_behind : (zs xs ys : List Spot) → AreSome xs ys → AreSome xs (zs ++ ys)
some_behind [] xs ys h = h
some_behind (z ∷ zs) xs ys h = some_more z xs (zs ++ ys) (some_behind zs xs ys h)

pub some_both : (xs ys zs ws : List Spot) → AreSome xs ys → AreSome zs ws → AreSome (xs ++ zs) (ys ++ ws)
some_both [] ys zs ws h k = some_behind ys zs ws k
some_both (x ∷ xs) [] zs ws h k = absurd h
some_both (x ∷ xs) (y ∷ ys) zs ws (inl h) k = inl (h.0, some_both xs ys zs ws h.1 k)
some_both (x ∷ xs) (y ∷ ys) zs ws (inr h) k = inr (some_both (x ∷ xs) ys zs ws h k)

some_all : (P : Spot → Type 0) (xs ys : List Spot) → AreSome xs ys → AllByRecursion P ys → AllByRecursion P xs
some_all P [] ys h k = tt
some_all P (x ∷ xs) [] h k = absurd h
some_all P (x ∷ xs) (y ∷ ys) (inl h) k = (subst P (sym h.0) k.0, some_all P xs ys h.1 k.1)
some_all P (x ∷ xs) (y ∷ ys) (inr h) k = some_all P (x ∷ xs) ys h k.1

pub some_apart : (xs ys : List Spot) → AreSome xs ys → AreApart ys → AreApart xs
some_apart [] ys h a = tt
some_apart (x ∷ xs) [] h a = absurd h
some_apart (x ∷ xs) (y ∷ ys) (inl h) a =
    let P : Spot → Type 0 = λ z. AllByRecursion (IsApart z) xs in
    (subst P (sym h.0) (some_all (IsApart y) xs ys h.1 a.0), some_apart xs ys h.1 a.1)
some_apart (x ∷ xs) (y ∷ ys) (inr h) a = some_apart (x ∷ xs) ys h a.1
