-- Texts in capitals, and what they tell of the texts.
use Rattle.std.proofs.Common.{◌≡◌, ℕ, ◌+◌, Bool, true, false, not, cond, List, [], ◌∷◌, ◌++◌, length, take, drop, refl, sym, ◌∙◌, ap, subst, arith}
use Rattle.std.specs.Char.{to_ascii_uppercase}
use Rattle.std.specs.List.{list_all, prefix_len}
use Rattle.std.proofs.lemmas.Bool.{and_parts}
use Rattle.std.proofs.lemmas.Bool.Decides.{nat_tests}
use Rattle.std.proofs.lemmas.List.{map-append, take-map, drop-map, length-map}
use Rattle.algol_tree.specs.declared.token.Symbol.{Symbol}
use Rattle.algol_tree.specs.declared.token.Symbol.TheVariants as symbols
use Rattle.algol_tree.specs.Spelling.{is_letter, is_digit, is_letter_or_digit, drawn, Spells}
use Rattle.algol_tree.specs.Lexes.{capitals, IsLongest}
use Rattle.b67_list.proofs.Truths.{not_true_is}
use Rattle.algol_lexer.specs.Runs.{in_word}
use Rattle.algol_lexer.proofs.LexFronts.{IsLongestOf}

-- a byte that is no letter in capitals is itself in capitals
pub uppercase_same : (b : ℕ) → is_letter (to_ascii_uppercase b) ≡ false → to_ascii_uppercase b ≡ b
uppercase_same b h = grind (arith, nat_tests)

-- a digit is one in capitals
digit_kept : (b : ℕ) → is_digit b ≡ true → is_digit (to_ascii_uppercase b) ≡ true
digit_kept b h = grind (arith, nat_tests)

other_kept : (b : ℕ) → is_digit b ≡ false → is_digit (to_ascii_uppercase b) ≡ false
other_kept b h = grind (arith, nat_tests)

pub is_digit_uppercase : (b : ℕ) → is_digit (to_ascii_uppercase b) ≡ is_digit b
is_digit_uppercase b =
    let P : Bool → Type 0 = λ v. is_digit b ≡ v → is_digit (to_ascii_uppercase b) ≡ v in
    elim (is_digit b) as P [ true ↦ λ h. digit_kept b h | false ↦ λ h. other_kept b h ] refl

digit_no_letter : (b : ℕ) → is_digit b ≡ true → is_letter (to_ascii_uppercase b) ≡ false
digit_no_letter b h = grind (arith, nat_tests)

-- digits are the same in capitals
pub capitals_digits : (bytes : List ℕ) → list_all is_digit bytes ≡ true → capitals bytes ≡ bytes
capitals_digits [] h = refl
capitals_digits (b ∷ bytes) h =
    let p = and_parts (is_digit b) (list_all is_digit bytes) h in
    let here = uppercase_same b (digit_no_letter b p.0) in
    let there = capitals_digits bytes p.1 in
    cc

-- the run of a test that sees capitals
pub prefix_len_capitals : (p q : ℕ → Bool) → ((b : ℕ) → p (to_ascii_uppercase b) ≡ q b) → (bytes : List ℕ) → prefix_len p (capitals bytes) ≡ prefix_len q bytes
prefix_len_capitals p q same [] = refl
prefix_len_capitals p q same (b ∷ bytes) =
    ap (λ (v : Bool). cond v (1 + prefix_len p (capitals bytes)) 0) (same b) ∙ ap (λ (n : ℕ). cond (q b) (1 + n) 0) (prefix_len_capitals p q same bytes)

pub in_word_uppercase : (b : ℕ) → is_letter_or_digit (to_ascii_uppercase b) ≡ in_word b
in_word_uppercase b = rw (is_digit_uppercase b)

pub length_capitals : (bytes : List ℕ) → length (capitals bytes) ≡ length bytes
length_capitals bytes = length-map bytes to_ascii_uppercase

pub take_capitals : (n : ℕ) (bytes : List ℕ) → take n (capitals bytes) ≡ capitals (take n bytes)
take_capitals n bytes = take-map to_ascii_uppercase n bytes

pub drop_capitals : (n : ℕ) (bytes : List ℕ) → drop n (capitals bytes) ≡ capitals (drop n bytes)
drop_capitals n bytes = drop-map to_ascii_uppercase n bytes

pub capitals_append : (xs ys : List ℕ) → capitals (xs ++ ys) ≡ capitals xs ++ capitals ys
capitals_append xs ys = map-append to_ascii_uppercase xs ys

-- the longest in capitals is the longest, and the other way round
pub longest_from : (bytes after : List ℕ) → IsLongestOf (capitals bytes) (capitals after) → IsLongest bytes after
longest_from bytes after g b more k e s = g (to_ascii_uppercase b) (capitals more) k (ap capitals e) (subst (λ (l : List ℕ). Spells l k) (capitals_append bytes (b ∷ [])) s)

pub longest_of : (bytes after : List ℕ) → IsLongest bytes after → IsLongestOf (capitals bytes) (capitals after)
longest_of bytes [] g b more k e s = cc
longest_of bytes (c ∷ after) g b more k e s =
    let same : to_ascii_uppercase c ≡ b = cc in
    g c after k refl (subst (λ (l : List ℕ). Spells l k) (sym (capitals_append bytes (c ∷ []) ∙ ap (λ (n : ℕ). capitals bytes ++ n ∷ []) same)) s)

-- no byte is a letter
abbrev no_letter : ℕ → Bool
no_letter b = not (is_letter b)

no_letter_drawn : (s : Symbol) → list_all no_letter (drawn s) ≡ true
no_letter_drawn s = elim s as (λ v. list_all no_letter (drawn v) ≡ true) [ symbols.Plus ↦ refl | _ ↦ refl ]

capitals_plain : (bytes : List ℕ) → list_all no_letter (capitals bytes) ≡ true → capitals bytes ≡ bytes
capitals_plain [] h = refl
capitals_plain (b ∷ bytes) h =
    let p = and_parts (no_letter (to_ascii_uppercase b)) (list_all no_letter (capitals bytes)) h in
    let here = uppercase_same b (not_true_is (is_letter (to_ascii_uppercase b)) p.0) in
    let there = capitals_plain bytes p.1 in
    cc

-- a symbol is the same in capitals
pub capitals_drawn : (s : Symbol) → capitals (drawn s) ≡ drawn s
capitals_drawn s = elim s as (λ v. capitals (drawn v) ≡ drawn v) [ symbols.Plus ↦ refl | _ ↦ refl ]

-- what is drawn in capitals is drawn
pub drawn_from : (bytes : List ℕ) (s : Symbol) → capitals bytes ≡ drawn s → bytes ≡ drawn s
drawn_from bytes s e = sym (capitals_plain bytes (ap (list_all no_letter) e ∙ no_letter_drawn s)) ∙ e
