-- What the spelling of a token tells of its bytes and its kind.
use Rattle.std.proofs.Common.{◌≡◌, ℕ, ◌<◌, ◌≤◌, true, false, cond, List, [], ◌∷◌, length, pos, refl, sym, ◌∙◌, ap, arith}
use Rattle.std.specs.List.{list_all}
use Rattle.std.specs.Str.{bytes_eq}
use Rattle.std.proofs.lemmas.Bool.{and_parts}
use Rattle.std.proofs.lemmas.Bool.Decides.{nat_tests}
use Rattle.algol_tree.specs.declared.token.Reserved.{Reserved}
use Rattle.algol_tree.specs.declared.token.Reserved.TheVariants as reserved
use Rattle.algol_tree.specs.declared.token.Symbol.{Symbol}
use Rattle.algol_tree.specs.declared.token.Symbol.TheVariants as symbols
use Rattle.algol_tree.specs.declared.token.TokenKind.{TokenKind}
use Rattle.algol_tree.specs.declared.token.TokenKind.TheVariants as kinds
use Rattle.algol_lexer.proofs.LexWords.{written_injective}
use Rattle.algol_tree.specs.Spelling.{is_letter, is_digit, is_letter_or_digit, is_name, is_number, value_of, written, drawn, Spells, word, name, number, symbol}

-- a reserved word is letters
pub is_name_written : (w : Reserved) → is_name (written w) ≡ true
is_name_written w = elim w as (λ v. is_name (written v) ≡ true) [ reserved.And ↦ refl | _ ↦ refl ]

-- a symbol is no name and no number, and has one byte or two
pub is_name_drawn : (s : Symbol) → is_name (drawn s) ≡ false
is_name_drawn s = elim s as (λ v. is_name (drawn v) ≡ false) [ symbols.Plus ↦ refl | _ ↦ refl ]

pub is_number_drawn : (s : Symbol) → is_number (drawn s) ≡ false
is_number_drawn s = elim s as (λ v. is_number (drawn v) ≡ false) [ symbols.Plus ↦ refl | _ ↦ refl ]

pub length_drawn_le : (s : Symbol) → length (drawn s) ≤ 2
length_drawn_le s = elim s as (λ v. length (drawn v) ≤ 2) [ symbols.Plus ↦ omega arith | _ ↦ omega arith ]

pub length_drawn_pos : (s : Symbol) → 0 < length (drawn s)
length_drawn_pos s = elim s as (λ v. 0 < length (drawn v)) [ symbols.Plus ↦ omega arith | _ ↦ omega arith ]

-- the symbol of a list that is drawn so, or else the last
symbol_among : List Symbol → List ℕ → Symbol
symbol_among [] bytes = symbols.NotEqual
symbol_among (s ∷ ss) bytes = cond (bytes_eq (drawn s) bytes) s (symbol_among ss bytes)

abbrev all_symbols : List Symbol
all_symbols = symbols.Plus ∷ symbols.Minus ∷ symbols.Times ∷ symbols.Over ∷ symbols.Becomes ∷ symbols.Semicolon ∷ symbols.Comma ∷ symbols.OpenRound ∷ symbols.CloseRound ∷ symbols.OpenSquare ∷ symbols.CloseSquare ∷ symbols.Colon ∷ symbols.Period ∷ symbols.Less ∷ symbols.Greater ∷ symbols.Equal ∷ symbols.LessOrEqual ∷ symbols.GreaterOrEqual ∷ symbols.NotEqual ∷ []

symbol_among_drawn : (s : Symbol) → symbol_among all_symbols (drawn s) ≡ s
unfolding symbol_among
symbol_among_drawn s = elim s as (λ v. symbol_among all_symbols (drawn v) ≡ v) [ symbols.Plus ↦ refl | _ ↦ refl ]

-- no two symbols are drawn alike
pub drawn_injective : (s t : Symbol) → drawn s ≡ drawn t → s ≡ t
drawn_injective s t e = sym (symbol_among_drawn s) ∙ ap (symbol_among all_symbols) e ∙ symbol_among_drawn t

-- A spelled list has the shape of a name, of a number, or of a symbol.
pub data Shape : List ℕ → Type 0 where
  letters : (bytes : List ℕ) → is_name bytes ≡ true → Shape bytes
  digits : (bytes : List ℕ) → is_number bytes ≡ true → Shape bytes
  mark : (s : Symbol) → Shape (drawn s)

-- Each token has such a shape.
pub shape_of : {bytes : List ℕ} {k : TokenKind} → Spells bytes k → Shape bytes
shape_of (word w) = letters (written w) (is_name_written w)
shape_of (name bytes h other) = letters bytes h
shape_of (number bytes h) = digits bytes h
shape_of (symbol s) = mark s

-- no byte is both a letter and a digit
pub letter_not_digit : (b : ℕ) → is_letter b ≡ true → is_digit b ≡ true → ⊥
letter_not_digit b l d = grind (arith, nat_tests)

-- a name begins with a letter, a number with a digit
pub is_letter_head : (b : ℕ) (bytes : List ℕ) → is_name (b ∷ bytes) ≡ true → is_letter b ≡ true
is_letter_head b bytes h = (and_parts (is_letter b) (list_all is_letter_or_digit bytes) h).0

pub is_digit_head : (b : ℕ) (bytes : List ℕ) → is_number (b ∷ bytes) ≡ true → is_digit b ≡ true
is_digit_head b bytes h = (and_parts (is_digit b) (list_all is_digit bytes) h).0

-- no list is both a name and a number
name_not_number : (bytes : List ℕ) → is_name bytes ≡ true → is_number bytes ≡ true → ⊥
name_not_number [] h i = absurd cc
name_not_number (b ∷ bytes) h i = letter_not_digit b (is_letter_head b bytes h) (is_digit_head b bytes i)

-- what is spelled has a byte
pub length_shape_pos : {bytes : List ℕ} → Shape bytes → 0 < length bytes
length_shape_pos (letters [] h) = absurd cc
length_shape_pos (letters (b ∷ bytes) h) = omega arith
length_shape_pos (digits [] h) = absurd cc
length_shape_pos (digits (b ∷ bytes) h) = omega arith
length_shape_pos (mark s) = length_drawn_pos s

-- A list that is spelled has one kind.
one_kind_at : {xs ys : List ℕ} {k j : TokenKind} → Spells xs k → Spells ys j → xs ≡ ys → k ≡ j
one_kind_at (word w) (word v) e = ap kinds.Word (written_injective w v e)
one_kind_at (word w) (name bytes h other) e = absurd (other (w, sym e))
one_kind_at (word w) (number bytes h) e = absurd (name_not_number (written w) (is_name_written w) (ap is_number e ∙ h))
one_kind_at (word w) (symbol s) e = let p : is_name (written w) ≡ is_name (drawn s) = ap is_name e in let q = is_name_written w in let r = is_name_drawn s in absurd cc
one_kind_at (name bytes h other) (word v) e = absurd (other (v, e))
one_kind_at (name bytes h other) (name bytes' h' other') e = ap kinds.Name e
one_kind_at (name bytes h other) (number bytes' h') e = absurd (name_not_number bytes h (ap is_number e ∙ h'))
one_kind_at (name bytes h other) (symbol s) e = let p : is_name bytes ≡ is_name (drawn s) = ap is_name e in let r = is_name_drawn s in absurd cc
one_kind_at (number bytes h) (word v) e = absurd (name_not_number bytes (ap is_name e ∙ is_name_written v) h)
one_kind_at (number bytes h) (name bytes' h' other') e = absurd (name_not_number bytes (ap is_name e ∙ h') h)
one_kind_at (number bytes h) (number bytes' h') e = ap (λ ds. kinds.Number (pos (value_of ds))) e
one_kind_at (number bytes h) (symbol s) e = let p : is_number bytes ≡ is_number (drawn s) = ap is_number e in let r = is_number_drawn s in absurd cc
one_kind_at (symbol s) (word v) e = let p : is_name (drawn s) ≡ is_name (written v) = ap is_name e in let q = is_name_written v in let r = is_name_drawn s in absurd cc
one_kind_at (symbol s) (name bytes h other) e = let p : is_name (drawn s) ≡ is_name bytes = ap is_name e in let r = is_name_drawn s in absurd cc
one_kind_at (symbol s) (number bytes h) e = let p : is_number (drawn s) ≡ is_number bytes = ap is_number e in let r = is_number_drawn s in absurd cc
one_kind_at (symbol s) (symbol t) e = ap kinds.Symbol (drawn_injective s t e)

pub one_kind : {xs : List ℕ} {k j : TokenKind} → Spells xs k → Spells xs j → k ≡ j
one_kind p q = one_kind_at p q refl
