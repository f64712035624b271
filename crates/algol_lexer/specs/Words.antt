-- The table of the reserved words, by their first letters: which word a text is.
use Rattle.std.specs.Prelude.{ℕ, ◌-◌, List, [], ◌∷◌, Option, Some, None, if◌then◌else◌, slice_get}
use Rattle.std.specs.Borrow.{Bor}
use Rattle.std.specs.Str.{bytes_eq}
use Rattle.algol_tree.specs.declared.token.Reserved.{Reserved}

-- the word of the first row that is written so
abbrev pub first_written : {Name : Type 0} → (Name → List ℕ) → List ℕ → List (Reserved × Name) → Option Reserved
first_written at bytes [] = None
first_written at bytes (row ∷ more) = if bytes_eq (at row.1) bytes then Some row.0 else first_written at bytes more

abbrev pub reserved_word_in : List (Reserved × Bor (List ℕ)) → List ℕ → Option Reserved
reserved_word_in rows bytes = first_written (λ (name : Bor (List ℕ)). name.now) bytes rows

abbrev pub rows_or_none : {Row Place : Type 0} → (Place → List Row) → Option Place → List Row
rows_or_none rows None = []
rows_or_none rows (Some place) = rows place

-- the rows of the words that begin as the text does, where A is 65
abbrev pub rows_at : {Row Place : Type 0} → (Place → List Row) → List Place → List ℕ → List Row
rows_at rows table [] = []
rows_at rows table (first ∷ more) = rows_or_none rows (slice_get table (first - 65))

-- the word that such a table has for the text
unfoldable pub word_of : List (Bor (List (Reserved × Bor (List ℕ)))) → List ℕ → Option Reserved
word_of table bytes = reserved_word_in (rows_at (λ rows. rows.now) table bytes) bytes
