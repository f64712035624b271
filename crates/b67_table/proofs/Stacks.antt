-- Lists by number, and stacks of which one has other words from a place on.
use Rattle.std.proofs.Common.{◌≡◌, ◌≢◌, refl, sym, ap, ℕ, zero, suc, ◌+◌, ◌<◌, ◌≤◌, List, [], ◌∷◌, ◌++◌, length, take, drop, set, Option, Some, arith}
use Rattle.std.specs.Prelude.{slice_get}
use Rattle.b67_list.specs.Numbered.{numbered, set_numbered}
use Rattle.b67_list.proofs.Lists.{get_set_other}
use Rattle.b67_store.specs.Store.{at_number, opened_at}

-- ---- lists by number

pub set_here : {X : Type 0} (xs : List (Option X)) (n : ℕ) (x y : X) → at_number xs n ≡ Some x → at_number (set xs n (Some y)) n ≡ Some y
set_here [] n x y e = cc
set_here (z ∷ zs) zero x y e = refl
set_here (z ∷ zs) (suc n) x y e = set_here zs n x y e

pub set_set_other : {X : Type 0} (xs : List X) (n k : ℕ) (a b : X) → n ≢ k → set (set xs n a) k b ≡ set (set xs k b) n a
set_set_other [] n k a b h = refl
set_set_other (x ∷ xs) zero zero a b h = absurd (h refl)
set_set_other (x ∷ xs) zero (suc k) a b h = refl
set_set_other (x ∷ xs) (suc n) zero a b h = refl
set_set_other (x ∷ xs) (suc n) (suc k) a b h = ap (λ z. x ∷ z) (set_set_other xs n k a b (λ e. h (ap suc e)))

pub open_set_other : {X : Type 0} (xs : List (Option X)) (n k : ℕ) (w v : X) (a : Option X) → k ≢ n → at_number xs n ≡ Some w
    → opened_at (set xs n a) k v ≡ set (opened_at xs k v) n a
open_set_other [] n k w v a h e = cc
open_set_other (y ∷ ys) zero zero w v a h e = absurd (h refl)
open_set_other (y ∷ ys) zero (suc k) w v a h e = refl
open_set_other (y ∷ ys) (suc n) zero w v a h e = refl
open_set_other (y ∷ ys) (suc n) (suc k) w v a h e = ap (λ z. y ∷ z) (open_set_other ys n k w v a (λ i. h (ap suc i)) e)

-- ---- items that are numbered from 1

pub numbered_other : {X : Type 0} (xs : List X) (p q : ℕ) (a b : X) → p ≢ q → set_numbered (set_numbered xs q a) p b ≡ set_numbered (set_numbered xs p b) q a
numbered_other xs zero zero a b h = refl
numbered_other xs zero (suc q) a b h = refl
numbered_other xs (suc p) zero a b h = refl
numbered_other xs (suc p) (suc q) a b h = set_set_other xs q p a b (λ e. h (ap suc (sym e)))

set_append : {X : Type 0} (xs ys : List X) (n : ℕ) (a : X) → n < length xs → set (xs ++ ys) n a ≡ set xs n a ++ ys
set_append [] ys n a h = absurd (omega (arith, h))
set_append (x ∷ xs) ys zero a h = refl
set_append (x ∷ xs) ys (suc n) a h = ap (λ z. x ∷ z) (set_append xs ys n a (omega (arith, h)))

pub numbered_append : {X : Type 0} (xs ys : List X) (q : ℕ) (a : X) → q ≤ length xs → set_numbered (xs ++ ys) q a ≡ set_numbered xs q a ++ ys
numbered_append xs ys zero a h = refl
numbered_append xs ys (suc q) a h = set_append xs ys q a (omega (arith, h))

pub get_numbered_other : {X : Type 0} (xs : List X) (p q : ℕ) (a : X) → q ≢ p → numbered (set_numbered xs p a) q ≡ numbered xs q
get_numbered_other xs p zero a h = refl
get_numbered_other xs zero (suc q) a h = refl
get_numbered_other xs (suc p) (suc q) a h = get_set_other xs p q a (λ e. h (ap suc e))

pub get_append : {X : Type 0} (xs ys : List X) (n : ℕ) → n < length xs → slice_get (xs ++ ys) n ≡ slice_get xs n
get_append [] ys n h = absurd (omega (arith, h))
get_append (x ∷ xs) ys zero h = refl
get_append (x ∷ xs) ys (suc n) h = get_append xs ys n (omega (arith, h))

pub get_numbered_append : {X : Type 0} (xs ys : List X) (q : ℕ) → q ≤ length xs → numbered (xs ++ ys) q ≡ numbered xs q
get_numbered_append xs ys zero h = refl
get_numbered_append xs ys (suc q) h = get_append xs ys q (omega (arith, h))

-- ---- words below a place

pub below_word : {X : Type 0} (xs top : List X) (base at : ℕ) → at < base → base ≤ length xs → slice_get (take base xs ++ top) at ≡ slice_get xs at
below_word [] top base at p h = absurd (omega (arith, p, h))
below_word (x ∷ xs) top zero at p h = absurd (omega (arith, p))
below_word (x ∷ xs) top (suc base) zero p h = refl
below_word (x ∷ xs) top (suc base) (suc at) p h = below_word xs top base at (omega (arith, p)) (omega (arith, h))

front : {X : Type 0} (xs top : List X) (base n : ℕ) → n ≤ base → base ≤ length xs → take n (take base xs ++ top) ≡ take n xs
front xs top base zero p h = refl
front [] top base (suc n) p h = absurd (omega (arith, p, h))
front (x ∷ xs) top zero (suc n) p h = absurd (omega (arith, p))
front (x ∷ xs) top (suc base) (suc n) p h = ap (λ z. x ∷ z) (front xs top base n (omega (arith, p)) (omega (arith, h)))

pub below_words : {X : Type 0} (xs top : List X) (base at n : ℕ) → at + n ≤ base → base ≤ length xs
    → take n (drop at (take base xs ++ top)) ≡ take n (drop at xs)
below_words xs top base zero n p h = front xs top base n (omega (arith, p)) h
below_words [] top zero (suc at) n p h = absurd (omega (arith, p))
below_words [] top (suc base) (suc at) n p h = absurd (omega (arith, h))
below_words (x ∷ xs) top zero (suc at) n p h = absurd (omega (arith, p))
below_words (x ∷ xs) top (suc base) (suc at) n p h = below_words xs top base at n (omega (arith, p)) (omega (arith, h))

pub save_below : {X : Type 0} (xs top : List X) (base at : ℕ) (w : X) → at < base → base ≤ length xs
    → set (take base xs ++ top) at w ≡ take base (set xs at w) ++ top
save_below [] top base at w p h = absurd (omega (arith, p, h))
save_below (x ∷ xs) top zero at w p h = absurd (omega (arith, p))
save_below (x ∷ xs) top (suc base) zero w p h = refl
save_below (x ∷ xs) top (suc base) (suc at) w p h = ap (λ z. x ∷ z) (save_below xs top base at w (omega (arith, p)) (omega (arith, h)))
