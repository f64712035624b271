-- Words of code and their syllables.
use Rattle.std.specs.Prelude.{◌≡◌, ℕ, ◌^◌, ◌<◌, List, All}
use Rattle.std.specs.List.{flat_map}
use Rattle.std.specs.Int.{bytes_high_first}
use Rattle.b67_segment.specs.declared.code.Segment.{Segment}
use Rattle.b67_segment.specs.Operators.{Placed, text, marks_of, AreFit}

-- the syllables of words, six of each, the first one highest
abbrev pub syllables : List ℕ → List ℕ
syllables words = flat_map (bytes_high_first 6) words

-- a segment is the code of these operators: their syllables, their marks, and nothing else
pub record Spells (ps : List Placed) (segment : Segment) : Type 0 where
  pub code : syllables segment.words ≡ text 0 ps
  pub small : All (λ word. word < 2 ^ 48) segment.words
  pub marks : segment.marks ≡ marks_of ps
  pub fit : AreFit ps
