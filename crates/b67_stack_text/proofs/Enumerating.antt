-- Words at their displacements, one more.
use Rattle.std.proofs.Common.{arith, ◌≡◌, ap, sym, ◌∙◌, ℕ, suc, ◌+◌, ◌<◌, List, [], ◌∷◌, ◌++◌, length, take, get_or}
use Rattle.std.specs.List.{flat_map, enumerate_from}
use Rattle.std.proofs.lemmas.List.{take_more, flat_map_more, length-take-le}
use Rattle.b67_word.specs.Word.{Word}

enumerate_more : (n : ℕ) (xs : List Word) (x : Word) → enumerate_from n (xs ++ x ∷ []) ≡ enumerate_from n xs ++ (n + length xs, x) ∷ []
enumerate_more n [] x = let none : n ≡ n + 0 = omega arith in ap (λ (k : ℕ). (k, x) ∷ []) none
enumerate_more n (y ∷ xs) x =
    let one : n + 1 + length xs ≡ n + suc (length xs) = omega arith in
    ap (λ (ps : List (ℕ × Word)). (n, y) ∷ ps) (enumerate_more (n + 1) xs x ∙ ap (λ (k : ℕ). enumerate_from (n + 1) xs ++ (k, x) ∷ []) one)

-- one line more
pub text_more :
    (line : ℕ × Word → List ℕ) (before : List ℕ) (xs : List Word) (i : ℕ) (d : Word) → i < length xs
    → (before ++ flat_map line (enumerate_from 0 (take i xs))) ++ line (i, get_or xs i d) ≡ before ++ flat_map line (enumerate_from 0 (take (i + 1) xs))
text_more line before xs i d less =
    let few : 0 + length (take i xs) ≡ i = omega (arith, length-take-le i xs (omega (arith, less))) in
    flat_map_more line before (enumerate_from 0 (take i xs)) (i, get_or xs i d)
    ∙ ap (λ (k : ℕ). before ++ flat_map line (enumerate_from 0 (take i xs) ++ (k, get_or xs i d) ∷ [])) (sym few)
    ∙ ap (λ (ps : List (ℕ × Word)). before ++ flat_map line ps) (sym (enumerate_more 0 (take i xs) (get_or xs i d)))
    ∙ ap (λ (ys : List Word). before ++ flat_map line (enumerate_from 0 ys)) (sym (take_more xs i d less))
