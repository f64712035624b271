-- A word that is copied into a room.
use Rattle.std.proofs.Common.{◌≡◌, ◌<◌, ◌∙◌, ℕ, zero, suc, ◌+◌, ◌++◌, List, [], ◌∷◌, length, take, set, slice_get, Some, None, ap, sym, arith}
use Rattle.std.proofs.lemmas.List.{take_more_set}
use Rattle.b67_word.specs.Word.{Word}

-- the lowest words and the one after them
word_more : (ws : List Word) (n : ℕ) (w : Word) → slice_get ws n ≡ Some w → take (suc n) ws ≡ take n ws ++ w ∷ []
word_more [] n w e = let clash : None ≡ Some w = e in absurd cc
word_more (x ∷ ws) zero w e =
    let is : Some x ≡ Some w = e in
    let same : x ≡ w = cc in
    ap (λ (v : Word). v ∷ []) same
word_more (x ∷ ws) (suc n) w e = ap (λ (vs : List Word). x ∷ vs) (word_more ws n w e)

pub one_copied : (room ws : List Word) (n : ℕ) (w : Word) → n < length room → take n room ≡ take n ws → slice_get ws n ≡ Some w → take (n + 1) (set room n w) ≡ take (n + 1) ws
one_copied room ws n w within same there =
    let one : n + 1 ≡ suc n = omega arith in
    take_more_set room n w within ∙ ap (λ (vs : List Word). vs ++ w ∷ []) same ∙ sym (ap (λ (k : ℕ). take k ws) one ∙ word_more ws n w there)
