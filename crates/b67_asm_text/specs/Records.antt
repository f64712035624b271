-- The records of a text, and the words of a record.
use Rattle.std.specs.Prelude.{ℕ, ◌+◌, ◌==◌, ◌&&◌, not, if◌then◌else◌, Bool, List, [], ◌∷◌, take, drop}
use Rattle.std.specs.List.{slice_split, prefix_len}
use Rattle.algol_tree.specs.Spelling.{is_blank}

abbrev pub is_line_feed : ℕ → Bool
is_line_feed byte = byte == 10

-- the records of a text: LFs divide them
abbrev pub records : List ℕ → List (List ℕ)
records bytes = slice_split is_line_feed bytes

-- whether a string is open after a byte
abbrev pub is_open_after : Bool → ℕ → Bool
is_open_after quoted byte = if byte == 34 then not quoted else quoted

-- how many bytes stand before the comment, which a percent sign outside a string begins
abbrev pub code_length : Bool → List ℕ → ℕ
code_length quoted [] = 0
code_length quoted (byte ∷ bytes) = if (byte == 37) && not quoted then 0 else (code_length (is_open_after quoted byte) bytes + 1)

-- what stands before the comment
abbrev pub code_part : List ℕ → List ℕ
code_part bytes = take (code_length Bool.false bytes) bytes

-- what stands after the first blanks
abbrev pub unblanked : List ℕ → List ℕ
unblanked text = drop (prefix_len is_blank text) text

-- how many bytes stand before a blank
abbrev pub word_length : List ℕ → ℕ
word_length text = prefix_len (λ (byte : ℕ). not (is_blank byte)) text

-- the first word, none where there are only blanks, and what stands after it
abbrev pub first_word : List ℕ → List ℕ
first_word text = take (word_length (unblanked text)) (unblanked text)

abbrev pub after_word : List ℕ → List ℕ
after_word text = drop (word_length (unblanked text)) (unblanked text)
