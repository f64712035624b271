-- What a heap's calls say of its numbers.
use Rattle.std.proofs.Common.{◌≡◌, ℕ, ◌<◌, ◌∙◌, cond, Bool, true, false, List, [], ◌∷◌, length, get_or, Result, Ok, Err, refl, ap, sym, arith, rules}
use Rattle.std.specs.Prelude.{nat_lt}
use Rattle.std.specs.List.{count_by}
use Rattle.std.specs.List.Sorted.{IsPermutation}
use Rattle.std.specs.declared.cmp.Ordering.{Ordering}
use Rattle.std.specs.declared.cmp.Ordering.TheVariants.{Less}
use Rattle.std.specs.Ordering.{is_lt}
use Rattle.std.specs.Result.{IsOk, OnOk}
use Rattle.std.specs.BinaryHeap.{IsUpperBound}
use Rattle.std.specs.declared.cmp.Reverse.{Reverse}
use Rattle.std.proofs.lemmas.List.Sorted.{IsPermutation-map, length_permutation}
use Rattle.std.proofs.lemmas.List.{length-map}
use Rattle.std.proofs.lemmas.List.Sums.{sum_by-cons}
use Rattle.b67_store.specs.Numbers.{least_first, numbers_of}

pub numbers_pushed : (n : Reverse ℕ) (old new : List (Reverse ℕ)) → IsPermutation (n ∷ old) new → IsPermutation (n.0 ∷ numbers_of old) (numbers_of new)
numbers_pushed n old new p = IsPermutation-map (λ (x : Reverse ℕ). x.0) (n ∷ old) new p

pub numbers_popped : (n : Reverse ℕ) (old new : List (Reverse ℕ)) → IsPermutation old (n ∷ new) → IsPermutation (numbers_of old) (n.0 ∷ numbers_of new)
numbers_popped n old new p = IsPermutation-map (λ (x : Reverse ℕ). x.0) old (n ∷ new) p

not_less : (b : Bool) (more : Ordering) → is_lt (cond b Less more) ≡ false → b ≡ false
not_less true more h = h
not_less false more h = refl

-- none is below the top
pub none_below : (n : Reverse ℕ) (xs : List (Reverse ℕ)) → IsUpperBound least_first n xs → count_by (λ k. nat_lt k n.0) (numbers_of xs) ≡ 0
none_below n [] h = refl
none_below n (x ∷ xs) h =
    let f : ℕ → ℕ = λ k. cond (nat_lt k n.0) 1 0 in
    sum_by-cons f x.0 (numbers_of xs) ∙ rw (not_less (nat_lt x.0 n.0) _ h.0, none_below n xs h.1) refl

-- the number on top
pub first_number : (xs : List (Reverse ℕ)) (x : Reverse ℕ) → 0 < length xs → x ≡ get_or xs 0 x → (rest : List ℕ) × (numbers_of xs ≡ x.0 ∷ rest)
first_number [] x p e = absurd (omega arith)
first_number (y ∷ ys) x p e = (numbers_of ys, ap (λ (z : Reverse ℕ). z.0 ∷ numbers_of ys) (sym e))

-- a call that succeeds
pub on_ok : {A E : Type 0} (r : Result A E) (P : Type 0) → IsOk r → OnOk r P → P
on_ok (Ok x) P h p = p
on_ok (Err e) P h p = absurd (search rules)

pub ruleset heaps = (numbers_pushed, numbers_popped, none_below, length_permutation, length-map)
