-- The words in a room: what is taken of it, what is moved in it, and what is left there.
use Rattle.std.proofs.Common.{◌≡◌, ◌≤◌, ◌∙◌, sym, ap, ℕ, ◌+◌, ◌-◌, List, ◌++◌, length, take, drop, arith, le_refl}
use Rattle.std.specs.Prelude.{reverse}
use Rattle.std.specs.List.{copy_within}
use Rattle.std.proofs.lemmas.List.{drop-take, length-drop, length-reverse, length-take-le, take-append-le, take-take}
use Rattle.std.proofs.lemmas.List.Edits.{take-paste}
use Rattle.std.proofs.Math.Seq.{drop-append_seam}
use Rattle.b67_store.proofs.TopFirst.{cut_is}
use Rattle.b67_store.specs.Store.{stack_limit, left_in}
use Rattle.b67_word.specs.Word.{Word}

-- all of what a vector holds after a loan of all of it
pub all_left : (room words : List Word) (n used : ℕ) → used ≡ n → length room ≡ n → take used (take n (words ++ drop (length words) room)) ≡ left_in room words
all_left room words n used e f =
    let whole = words ++ drop (length words) room in
    ap (λ k. take k (take n whole)) e ∙ take-take n n whole (le_refl n) ∙ ap (λ k. take k whole) (sym f)

-- and of those from a base on, the top one first
pub all_left_from : (room xs words : List Word) (n base : ℕ) → n ≡ stack_limit → length xs ≡ n → room ≡ xs → reverse (drop base (take stack_limit (take n (words ++ drop (length words) xs)))) ≡ reverse (drop base (left_in room words))
all_left_from room xs words n base e f same =
    ap (λ ws. reverse (drop base ws)) (all_left xs words n stack_limit (sym e) f ∙ ap (λ ys. left_in ys words) (sym same))

-- the lowest words in a room that is lent
pub lent_lowest : {A : Type 0} (xs room value : List A) (n : ℕ) → take n xs ≡ value → n ≤ length xs → room ≡ xs → take (length value) room ≡ value
lent_lowest xs room value n v p e =
    let size : length value ≡ n = ap length (sym v) ∙ length-take-le n xs p in
    ap (λ k. take k room) size ∙ ap (take n) e ∙ v

-- and there are as many as before
pub size_lowest : {A : Type 0} (xs value : List A) (n : ℕ) → take n xs ≡ value → n ≤ length xs → length value ≡ n
size_lowest xs value n v p = ap length (sym v) ∙ length-take-le n xs p

-- they stay where more are reached
pub filled_lowest : {A : Type 0} (xs after more value : List A) (n : ℕ) → take n xs ≡ value → n ≤ length xs → after ≡ xs ++ more → take n after ≡ value
filled_lowest xs after more value n v p e = ap (take n) e ∙ take-append-le n xs more p ∙ v

between : {A : Type 0} (xs : List A) (from end : ℕ) → from ≤ end → drop from (take end xs) ≡ take (end - from) (drop from xs)
between xs from end p =
    let e : end ≡ from + (end - from) = omega arith in
    ap (λ n. drop from (take n xs)) e ∙ drop-take from (end - from) xs

size_between : {A : Type 0} (xs : List A) (from end : ℕ) → from ≤ end → end ≤ length xs → length (drop from (take end xs)) ≡ end - from
size_between xs from end p q = length-drop from (take end xs) ∙ ap (λ n. n - from) (length-take-le end xs q)

-- words that are moved are the same
pub moved : {A : Type 0} (xs after : List A) (from end to : ℕ) → from ≤ end → end ≤ length xs → to + (end - from) ≤ length xs → after ≡ copy_within xs from end to → drop to (take (to + (end - from)) after) ≡ drop from (take end xs)
moved xs after from end to p q r e =
    let size : end - from ≤ length (drop from xs) = omega (arith, length-drop from xs) in
    let low : length (take to xs) ≡ to = length-take-le to xs (omega arith) in
    ap (λ ys. drop to (take (to + (end - from)) ys)) e
    ∙ ap (drop to) (take-paste xs to (drop from xs) (end - from) (omega arith) size)
    ∙ ap (λ n. drop n (take to xs ++ take (end - from) (drop from xs))) (sym low)
    ∙ drop-append_seam (take to xs) (take (end - from) (drop from xs))
    ∙ sym (between xs from end p)

-- the words between two places, the top one first, without so many on top
pub cut_between : {A : Type 0} (xs value : List A) (from end count : ℕ) → reverse (drop from (take end xs)) ≡ value → from ≤ end → end ≤ length xs → count ≤ length value → reverse (drop from (take (end - count) xs)) ≡ drop count value
cut_between xs value from end count v p q r =
    let size = size_between xs from end p q in
    let few : length value ≡ end - from = ap length (sym v) ∙ length-reverse (drop from (take end xs)) ∙ size in
    let n : ℕ = end - count - from in
    ap reverse (between xs from (end - count) (omega arith) ∙ sym (take-take n (end - from) (drop from xs) (omega arith)) ∙ ap (take n) (sym (between xs from end p)))
    ∙ cut_is (drop from (take end xs)) n count (omega (arith, size))
    ∙ ap (drop count) v

-- the words in a room that is lent from a base on
pub lent_from : {A : Type 0} (xs new room value : List A) (from end base : ℕ) → reverse (drop from (take end xs)) ≡ value → from ≤ end → end ≤ length xs → drop base (take (base + (end - from)) new) ≡ drop from (take end xs) → room ≡ new → reverse (drop base (take (base + length value) room)) ≡ value
lent_from xs new room value from end base v p q m e =
    let size : length value ≡ end - from = ap length (sym v) ∙ length-reverse (drop from (take end xs)) ∙ size_between xs from end p q in
    ap (λ n. reverse (drop base (take (base + n) room))) size ∙ ap (λ ys. reverse (drop base (take (base + (end - from)) ys))) e ∙ ap reverse m ∙ v

-- the words between two places stay where more are reached
pub filled_between : {A : Type 0} (xs after more value : List A) (from end : ℕ) → reverse (drop from (take end xs)) ≡ value → end ≤ length xs → after ≡ xs ++ more → reverse (drop from (take end after)) ≡ value
filled_between xs after more value from end v q e =
    ap (λ ys. reverse (drop from (take end ys))) e ∙ ap (λ ys. reverse (drop from ys)) (take-append-le end xs more q) ∙ v
