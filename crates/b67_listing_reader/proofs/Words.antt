-- Words and the syllables that they are.
use Rattle.std.proofs.Common.{◌≡◌, ℕ, zero, suc, ◌*◌, ◌^◌, ◌<◌, List, [], ◌∷◌, ◌++◌, length, take, drop, refl, sym, ap, arith, ◌∙◌}
use Rattle.std.specs.Int.{w64, from_be_bytes, bytes_high_first}
use Rattle.std.specs.List.{All}
use Rattle.std.proofs.lemmas.List.Elements.{All-cons, All-nil, All-tail}
use Rattle.b67_ops.proofs.Reading.{IsBytes}
use Rattle.b67_segment.specs.Syllables.{syllables}
use Rattle.b67_segment.proofs.Filling.{word_of}

abbrev IsSmall : ℕ → Type 0
IsSmall word = word < 2 ^ 48

abbrev word_in : List ℕ → ℕ
word_in bytes = from_be_bytes w64 (0 ∷ 0 ∷ bytes)

-- a word is that of its bytes
word_back : (word : ℕ) → word < 2 ^ 48 → word_in (bytes_high_first 6 word) ≡ word
word_back word small = omega arith

-- words of the same syllables are the same
pub one_words : (ws vs : List ℕ) → All IsSmall ws → All IsSmall vs → syllables ws ≡ syllables vs → ws ≡ vs
one_words [] [] a b e = refl
one_words [] (v ∷ vs) a b e = absurd (omega (arith, ap length e))
one_words (w ∷ ws) [] a b e = absurd (omega (arith, ap length e))
one_words (w ∷ ws) (v ∷ vs) a b e =
    let p : w < 2 ^ 48 = a 0 w (omega arith) in
    let q : v < 2 ^ 48 = b 0 v (omega arith) in
    let heads : bytes_high_first 6 w ≡ bytes_high_first 6 v = ap (λ (xs : List ℕ). take 6 xs) e in
    let tails : syllables ws ≡ syllables vs = ap (λ (xs : List ℕ). drop 6 xs) e in
    let first : w ≡ v = sym (word_back w p) ∙ ap word_in heads ∙ word_back v q in
    let rest = one_words ws vs (All-tail IsSmall w ws a) (All-tail IsSmall v vs b) tails in
    cc

-- whole words of bytes
pub record Worded (count : ℕ) (bytes : List ℕ) : Type 0 where
  pub words : List ℕ
  pub count_is : length words ≡ count
  pub are : syllables words ≡ bytes
  pub small : All IsSmall words

six_less : (a b c d e f : ℕ) (rest : List ℕ) → IsBytes (a ∷ b ∷ c ∷ d ∷ e ∷ f ∷ rest) → IsBytes rest
six_less a b c d e f rest h i = h (suc (suc (suc (suc (suc (suc i))))))

pub worded : (count : ℕ) (bytes : List ℕ) → length bytes ≡ 6 * count → IsBytes bytes → Worded count bytes
worded zero [] long h = record { words = []; count_is = refl; are = refl; small = All-nil IsSmall }
worded zero (a ∷ bytes) long h = absurd (omega arith)
worded (suc count) [] long h = absurd (omega arith)
worded (suc count) (a ∷ []) long h = absurd (omega arith)
worded (suc count) (a ∷ b ∷ []) long h = absurd (omega arith)
worded (suc count) (a ∷ b ∷ c ∷ []) long h = absurd (omega arith)
worded (suc count) (a ∷ b ∷ c ∷ d ∷ []) long h = absurd (omega arith)
worded (suc count) (a ∷ b ∷ c ∷ d ∷ e ∷ []) long h = absurd (omega arith)
worded (suc count) (a ∷ b ∷ c ∷ d ∷ e ∷ f ∷ rest) long h =
    let pa : a < 256 = h 0 in
    let pb : b < 256 = h 1 in
    let pc : c < 256 = h 2 in
    let pd : d < 256 = h 3 in
    let pe : e < 256 = h 4 in
    let pf : f < 256 = h 5 in
    let word = word_in (a ∷ b ∷ c ∷ d ∷ e ∷ f ∷ []) in
    let small : word < 2 ^ 48 = omega arith in
    let more = worded count rest (omega arith) (six_less a b c d e f rest h) in
    record {
      words = word ∷ more.words;
      count_is = omega (arith, more.count_is);
      are = ap (λ xs. xs ++ syllables more.words) (word_of a b c d e f pa pb pc pd pe pf) ∙ ap (λ xs. a ∷ b ∷ c ∷ d ∷ e ∷ f ∷ xs) more.are;
      small = All-cons IsSmall word more.words small more.small;
    }
