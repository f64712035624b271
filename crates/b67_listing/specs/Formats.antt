-- The lines of formats.
use Rattle.std.specs.Prelude.{ℕ, List, [], ◌∷◌, ◌++◌, map, codes}
use Rattle.std.specs.List.{flat_map, enumerate_from}
use Rattle.std.specs.Fmt.{decimal}
use Rattle.b67_segment.specs.declared.code.Phrase.{Phrase}
use Rattle.b67_segment.specs.declared.code.Phrase.TheVariants.{Text, Number, Blanks}
use Rattle.b67_segment.specs.declared.code.Format.{Format}

-- a phrase as it stands in a source
abbrev pub phrase_text : Phrase → List ℕ
phrase_text (Text text) = codes "\"" ++ text ++ codes "\""
phrase_text (Number width) = codes "I" ++ decimal width
phrase_text (Blanks width) = codes "X" ++ decimal width

-- phrases with commas between them
abbrev pub phrases_text : List Phrase → List ℕ
phrases_text [] = []
phrases_text (first ∷ rest) = phrase_text first ++ flat_map (λ phrase. codes "," ++ phrase_text phrase) rest

-- a format with its number
abbrev pub format_line : ℕ × Format → List ℕ
format_line numbered = codes "FORMAT " ++ decimal numbered.0 ++ codes " <" ++ phrases_text numbered.1.phrases ++ codes ">"

-- formats, which are numbered from 0
abbrev pub format_lines : List Format → List (List ℕ)
format_lines formats = map format_line (enumerate_from 0 formats)
