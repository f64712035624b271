-- How the phrases of a format stand in a record: each as it stands in a listing, with blanks around it.
use Rattle.std.specs.Prelude.{◌≡◌, ◌↔◌, ℕ, ◌≤◌, true, List, [], ◌∷◌, ◌++◌, length, codes, Some}
use Rattle.std.specs.List.{All}
use Rattle.algol_tree.specs.Spelling.{is_blank}
use Rattle.b67_segment.specs.declared.code.Phrase.{Phrase}
use Rattle.b67_listing.specs.Formats.{phrase_text}
use Rattle.b67_listing.specs.Listings.{IsPhrase}
use Rattle.b67_asm_text.specs.Phrases.{are_in_range, phrases_in}

-- blanks only
abbrev pub AreBlanks : List ℕ → Type 0
AreBlanks bytes = All (λ (byte : ℕ). is_blank byte ≡ true) bytes

-- a phrase stands at the head of these bytes as in a listing, with blanks around it, and this is what comes after them
pub record PhraseStands (phrase : Phrase) (bytes rest : List ℕ) : Type 0 where
  pub is_phrase : IsPhrase phrase
  pub before : List ℕ
  pub after : List ℕ
  pub blanks_before : AreBlanks before
  pub blanks_after : AreBlanks after
  pub bytes_are : bytes ≡ before ++ (phrase_text phrase ++ (after ++ rest))

-- phrases stand here, the first after this mark and each other one after a comma, and then the last bracket and blanks
abbrev pub PhrasesStand : List ℕ → List Phrase → List ℕ → Type 0
PhrasesStand mark [] bytes = (end : List ℕ) × (bytes ≡ codes ">" ++ end) × AreBlanks end
PhrasesStand mark (phrase ∷ phrases) bytes =
    (here : List ℕ) × (rest : List ℕ) × (bytes ≡ mark ++ here) × PhraseStands phrase here rest × PhrasesStand (codes ",") phrases rest

-- these bytes are the word FORMAT, and phrases between brackets
pub record FormatStands (phrases : List Phrase) (bytes : List ℕ) : Type 0 where
  pub some : 1 ≤ length phrases
  pub blanks : List ℕ
  pub are_blanks : AreBlanks blanks
  pub rest : List ℕ
  pub stand : PhrasesStand (codes "<") phrases rest
  pub bytes_are : bytes ≡ codes "FORMAT" ++ (blanks ++ rest)

-- phrases that fit a line are read of a record exactly where they stand there so
abbrev pub FormatsAreListed : Type 0
FormatsAreListed = (bytes : List ℕ) (phrases : List Phrase) → are_in_range phrases ≡ true → (phrases_in bytes ≡ Some phrases) ↔ FormatStands phrases bytes
