-- Entries of a list to which one more is added.
use Rattle.std.proofs.Common.{arith, ◌≡◌, refl, sym, ap, ◌∙◌, ℕ, zero, suc, ◌+◌, ◌<◌, ◌≤◌, List, [], ◌∷◌, ◌++◌, length, Some, slice_get}
use Rattle.b67_race.specs.Entries.{Done, IsNumberedEntry}

place_bound : (ds : List Done) (k : ℕ) (d : Done) → slice_get ds k ≡ Some d → k < length ds
place_bound [] zero d e = cc
place_bound [] (suc k) d e = cc
place_bound (x ∷ ds) zero d e = omega arith
place_bound (x ∷ ds) (suc k) d e = let r : k < length ds = place_bound ds k d e in omega (arith, r)

place_more : (ds more : List Done) (k : ℕ) (d : Done) → slice_get ds k ≡ Some d → slice_get (ds ++ more) k ≡ Some d
place_more [] more zero d e = cc
place_more [] more (suc k) d e = cc
place_more (x ∷ ds) more zero d e = e
place_more (x ∷ ds) more (suc k) d e = place_more ds more k d e

place_old : (ds more : List Done) (k : ℕ) (d : Done) → k < length ds → slice_get (ds ++ more) k ≡ Some d → slice_get ds k ≡ Some d
place_old [] more k d l e = absurd (omega (arith, l))
place_old (x ∷ ds) more zero d l e = e
place_old (x ∷ ds) more (suc k) d l e = let r : k < length ds = omega (arith, l) in place_old ds more k d r e

place_new : (ds : List Done) (x : Done) → slice_get (ds ++ x ∷ []) (length ds) ≡ Some x
place_new [] x = refl
place_new (y ∷ ds) x = let r : length (y ∷ ds) ≡ suc (length ds) = omega arith in ap (λ (n : ℕ). slice_get (y ∷ ds ++ x ∷ []) n) r ∙ place_new ds x

pub is_least : (ds : List Done) (k : ℕ) (d : Done) → IsNumberedEntry ds k d → 1 ≤ k
is_least ds zero d e = cc
is_least ds (suc k) d e = omega arith

pub is_within : (ds : List Done) (k : ℕ) (d : Done) → IsNumberedEntry ds k d → k ≤ length ds
is_within ds zero d e = cc
is_within ds (suc k) d e = let r : k < length ds = place_bound ds k d e in omega (arith, r)

pub is_more : (ds more : List Done) (k : ℕ) (d : Done) → IsNumberedEntry ds k d → IsNumberedEntry (ds ++ more) k d
is_more ds more zero d e = cc
is_more ds more (suc k) d e = place_more ds more k d e

pub is_old : (ds more : List Done) (k : ℕ) (d : Done) → k ≤ length ds → IsNumberedEntry (ds ++ more) k d → IsNumberedEntry ds k d
is_old ds more zero d l e = cc
is_old ds more (suc k) d l e = let r : k < length ds = omega (arith, l) in place_old ds more k d r e

pub is_new : (ds : List Done) (x : Done) → IsNumberedEntry (ds ++ x ∷ []) (length ds + 1) x
is_new ds x = let r : length ds + 1 ≡ suc (length ds) = omega arith in let e : IsNumberedEntry (ds ++ x ∷ []) (suc (length ds)) x = place_new ds x in rw r e

pub same_done : (ds : List Done) (k : ℕ) (d e : Done) → IsNumberedEntry ds k d → IsNumberedEntry ds k e → d ≡ e
same_done ds k d e p q = let r : Some d ≡ Some e = sym p ∙ q in cc

pub length_more : (ds : List Done) (x : Done) → length (ds ++ x ∷ []) ≡ length ds + 1
length_more [] x = refl
length_more (y ∷ ds) x = let r : length (ds ++ x ∷ []) ≡ length ds + 1 = length_more ds x in omega (arith, r)
