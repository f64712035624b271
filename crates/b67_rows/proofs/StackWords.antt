-- The words of a core's stack: those on top, and those below.
use Rattle.std.proofs.Common.{◌≡◌, refl, sym, ap, ◌∙◌, ℕ, zero, suc, ◌+◌, List, [], ◌∷◌, ◌++◌, length, take, drop, Some, arith, append_assoc, append-nil, length-append}
use Rattle.b67_list.proofs.Lists.{get_front, take_front}
use Rattle.b67_rows.proofs.Prelude.{reverse-append, length-reverse, slice_get, slice_set, reverse, Word, Stacks, stack_at, words_of, words_or, with_stack}
use Rattle.b67_rows.proofs.Cored.{stack_set}

-- what stands right after a front
pub get_seam : {A : Type 0} (front : List A) (x : A) (back : List A) (n : ℕ) → n ≡ length front → slice_get (front ++ x ∷ back) n ≡ Some x
get_seam [] x back zero e = refl
get_seam [] x back (suc n) e = absurd (omega (arith, e))
get_seam (y ∷ front) x back zero e = absurd (omega (arith, e))
get_seam (y ∷ front) x back (suc n) e = get_seam front x back n (omega (arith, e))

-- so far after a front
pub get_behind : {A : Type 0} (front back : List A) (k n : ℕ) → n ≡ length front + k → slice_get (front ++ back) n ≡ slice_get back k
get_behind [] back k n e = let same : n ≡ k = omega (arith, e) in ap (slice_get back) same
get_behind (x ∷ front) back k n e =
    let far : n ≡ suc (length front + k) = omega (arith, e) in
    ap (λ (m : ℕ). slice_get (x ∷ front ++ back) m) far ∙ get_behind front back k (length front + k) refl

pub set_front : {A : Type 0} (front back : List A) (k : ℕ) (x y : A) → slice_get front k ≡ Some y → slice_set (front ++ back) k x ≡ slice_set front k x ++ back
set_front [] back k x y e = cc
set_front (z ∷ front) back zero x y e = refl
set_front (z ∷ front) back (suc k) x y e = ap (λ zs. z ∷ zs) (set_front front back k x y e)

pub drop_seam : {A : Type 0} (front back : List A) (n : ℕ) → n ≡ length front → drop n (front ++ back) ≡ back
drop_seam [] back zero e = refl
drop_seam [] back (suc n) e = absurd (omega (arith, e))
drop_seam (x ∷ front) back zero e = absurd (omega (arith, e))
drop_seam (x ∷ front) back (suc n) e = drop_seam front back n (omega (arith, e))

pub take_all : {A : Type 0} (xs : List A) (n : ℕ) → n ≡ length xs → take n xs ≡ xs
take_all xs n e = ap (take n) (sym (append-nil xs)) ∙ take_front xs [] n e

-- words above others, the top first: the stack up to them, and then they
pub stack_over : (below above words : List Word) → below ++ reverse (above ++ words) ≡ (below ++ reverse words) ++ reverse above
stack_over below above words = ap (λ (ws : List Word). below ++ ws) (reverse-append above words) ∙ sym (append_assoc below (reverse words) (reverse above))

pub length_stack : (below words : List Word) → length (below ++ reverse words) ≡ length below + length words
length_stack below words = length-append below (reverse words) ∙ ap (λ n. length below + n) (length-reverse words)

-- the word above so many
pub word_over : (below : List Word) (x : Word) (words : List Word) (n : ℕ) → n ≡ length below + length words → slice_get (below ++ reverse (x ∷ words)) n ≡ Some x
word_over below x words n e =
    ap (λ (ws : List Word). slice_get ws n) (stack_over below (x ∷ []) words)
    ∙ get_seam (below ++ reverse words) x [] n (e ∙ sym (length_stack below words))

-- a word under others
pub word_under : (below above : List Word) (x : Word) (words : List Word) (n : ℕ) → n ≡ length below + length words → slice_get (below ++ reverse (above ++ x ∷ words)) n ≡ Some x
word_under below above x words n e =
    ap (λ (ws : List Word). slice_get ws n) (stack_over below above (x ∷ words))
    ∙ get_front (below ++ reverse (x ∷ words)) (reverse above) n x (word_over below x words n e)

-- the stack up to some words
pub cut_stack : (below above words : List Word) (n : ℕ) → n ≡ length below + length words → take n (below ++ reverse (above ++ words)) ≡ below ++ reverse words
cut_stack below above words n e =
    ap (take n) (stack_over below above words)
    ∙ take_front (below ++ reverse words) (reverse above) n (e ∙ sym (length_stack below words))

-- ---- stacks by number

pub words_set : (stacks : Stacks) (n : ℕ) (ws vs : List Word) → stack_at stacks n ≡ Some ws → words_of (with_stack stacks n vs) n ≡ vs
words_set stacks n ws vs e = ap words_or (stack_set stacks n ws vs e)

pub set_set : (stacks : Stacks) (n : ℕ) (vs us : List Word) → with_stack (with_stack stacks n vs) n us ≡ with_stack stacks n us
set_set [] n vs us = refl
set_set (z ∷ zs) zero vs us = refl
set_set (z ∷ zs) (suc n) vs us = ap (λ ys. z ∷ ys) (set_set zs n vs us)
