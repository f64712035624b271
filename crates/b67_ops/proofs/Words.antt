-- Zeros up to the next whole word.
use Rattle.std.proofs.Common.{◌≡◌, ℕ, ◌+◌, ◌≤◌, List, [], ◌∷◌, ◌++◌, take, replicate, refl, ap, one-add, append_assoc}
use Rattle.std.proofs.lemmas.List.{take-replicate}

-- so many zeros after a code
pub code_and_zeros : (code count : ℕ) → count ≤ 5 → take (1 + count) (code ∷ 0 ∷ 0 ∷ 0 ∷ 0 ∷ 0 ∷ []) ≡ code ∷ replicate count 0
code_and_zeros code count h = rw one-add (ap (λ xs. code ∷ xs) (take-replicate count 5 0 h))

-- a code and zeros, and then a word, are appended
pub word_appended : (bytes word : List ℕ) (code count : ℕ) → count ≤ 5
    → (bytes ++ take (1 + count) (code ∷ 0 ∷ 0 ∷ 0 ∷ 0 ∷ 0 ∷ [])) ++ word ≡ bytes ++ code ∷ (replicate count 0 ++ word)
word_appended bytes word code count h = rw (code_and_zeros code count h, append_assoc) refl
