-- The line that a WRITE adds.
use Rattle.std.specs.Prelude.{ℕ, ◌==◌, if◌then◌else◌, List, [], ◌∷◌, ◌++◌, replicate}
use Rattle.b67_list.specs.Lines.{justified}
use Rattle.algol_tree.specs.declared.tree.PhraseText.{PhraseText}
use Rattle.algol_tree.specs.declared.tree.PhraseText.TheVariants as phrase
use Rattle.algol_tree.specs.Spelling.{value_of}
use Rattle.algol_meaning.specs.Value.{Value, whole_of}

-- the first value, and the others
abbrev pub number_first : ℕ → List Value → (List Value → List ℕ) → List ℕ
number_first width [] go_on = go_on []
number_first width (v ∷ vs) go_on = justified width (whole_of v) ++ go_on vs

-- Iw gives the next item in w columns, Xw gives w blanks
abbrev pub phrase_with : List ℕ → List Value → (List Value → List ℕ) → List ℕ
phrase_with [] vs go_on = go_on vs
phrase_with (first ∷ digits) vs go_on =
    if first == 73 then number_first (value_of digits) vs go_on else replicate (value_of digits) 32 ++ go_on vs

-- the phrases from left to right
abbrev pub line_of : List PhraseText → List Value → List ℕ
line_of [] vs = []
line_of (phrase.Text text ∷ phrases) vs = text ++ line_of phrases vs
line_of (phrase.Word word ∷ phrases) vs = phrase_with word vs (line_of phrases)
