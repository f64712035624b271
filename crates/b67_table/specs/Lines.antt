-- The line that WRITE makes of a format and its items.
use Rattle.std.specs.Prelude.{ℕ, ℤ, List, [], ◌∷◌, ◌++◌, Option, Some, None, slice_get, replicate}
use Rattle.b67_list.specs.Lines.{justified}
use Rattle.b67_segment.specs.declared.code.Phrase.{Phrase}
use Rattle.b67_segment.specs.declared.code.Phrase.TheVariants as phrases
use Rattle.b67_segment.specs.declared.code.Format.{Format}
use Rattle.b67_segment.specs.declared.code.Code.{Code}

abbrev pub before : List ℕ → Option (List ℕ) → Option (List ℕ)
before bytes None = None
before bytes (Some rest) = Some (bytes ++ rest)

-- a phrase, and what comes after it
abbrev pub phrase_line : Phrase → List ℤ → (List ℤ → Option (List ℕ)) → Option (List ℕ)
phrase_line (phrases.Text text) values next = before text (next values)
phrase_line (phrases.Blanks n) values next = before (replicate n 32) (next values)
phrase_line (phrases.Number width) [] next = None
phrase_line (phrases.Number width) (value ∷ values) next = before (justified width value) (next values)

-- the line that a format makes of values, where there are as many as it has numbers
abbrev pub format_line : List Phrase → List ℤ → Option (List ℕ)
format_line [] [] = Some []
format_line [] (value ∷ values) = None
format_line (p ∷ ps) values = phrase_line p values (format_line ps)

abbrev pub line_by : Option Format → List ℤ → Option (List ℕ)
line_by None values = None
line_by (Some format) values = format_line format.phrases values

abbrev pub line_numbered : Code → ℤ → List ℤ → Option (List ℕ)
line_numbered code (ℤ.pos n) values = line_by (slice_get code.formats n) values
line_numbered code (ℤ.negsuc n) values = None

-- the line of the format's number and the items
abbrev pub line_for : Code → List ℤ → Option (List ℕ)
line_for code [] = None
line_for code (n ∷ values) = line_numbered code n values
