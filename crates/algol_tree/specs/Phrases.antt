-- The phrases of a format: "text" gives its bytes, Xw gives w blanks and Iw the next item in w columns, where w is at least 1.
use Rattle.std.specs.Prelude.{ℕ, ◌==◌, ◌&&◌, if◌then◌else◌, nat_lt, Bool, true, false, List, [], ◌∷◌, length, map, sum}
use Rattle.algol_tree.specs.declared.tree.PhraseText.{PhraseText}
use Rattle.algol_tree.specs.declared.tree.PhraseText.TheVariants as phrases
use Rattle.algol_tree.specs.Spelling.{is_number, value_of}

pub data Phrase : Type 0 where
  text : ℕ → Phrase  -- each with its columns
  blanks : ℕ → Phrase
  item : ℕ → Phrase
  no_phrase : Phrase

abbrev LETTER_I : ℕ
LETTER_I = 73

abbrev LETTER_X : ℕ
LETTER_X = 88

abbrev letter_phrase : ℕ → ℕ → Phrase
letter_phrase letter w = if letter == LETTER_I then item w else if letter == LETTER_X then blanks w else no_phrase

abbrev word_phrase : List ℕ → Phrase
word_phrase [] = no_phrase
word_phrase (letter ∷ digits) =
    if is_number digits && nat_lt 0 (value_of digits) then letter_phrase letter (value_of digits) else no_phrase

abbrev pub phrase_of : PhraseText → Phrase
phrase_of (phrases.Text bytes) = text (length bytes)
phrase_of (phrases.Word word) = word_phrase word

abbrev pub is_no_phrase : Phrase → Bool
is_no_phrase no_phrase = true
is_no_phrase _ = false

-- the items that it prints
abbrev items : Phrase → ℕ
items (item w) = 1
items _ = 0

abbrev pub columns : Phrase → ℕ
columns (text w) = w
columns (blanks w) = w
columns (item w) = w
columns no_phrase = 0

abbrev pub items_of : List PhraseText → ℕ
items_of ps = sum (map (λ (p : PhraseText). items (phrase_of p)) ps)

abbrev pub columns_of : List PhraseText → ℕ
columns_of ps = sum (map (λ (p : PhraseText). columns (phrase_of p)) ps)
