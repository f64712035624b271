-- Names of labels: a letter, and letters and digits, not too many, and no reserved word.
use Rattle.std.specs.Prelude.{ℕ, ◌&&◌, ◌||◌, nat_le, not, Bool, false, List, [], ◌∷◌, length}
use Rattle.std.specs.Borrow.{Bor}
use Rattle.std.specs.Str.{bytes_eq}
use Rattle.algol_tree.specs.declared.TheConstants.{MOST_NAME_BYTES}
use Rattle.algol_tree.specs.Spelling.{is_name}
use Rattle.b67_asm_text.specs.declared.name.TheConstants.{RESERVED}

abbrev pub word_is_one_of : {Word : Type 0} → (Word → List ℕ) → List Word → List ℕ → Bool
word_is_one_of at [] bytes = false
word_is_one_of at (word ∷ words) bytes = bytes_eq (at word) bytes || word_is_one_of at words bytes

abbrev pub name_is_among : List (Bor (List ℕ)) → List ℕ → Bool
name_is_among words bytes = word_is_one_of (λ (word : Bor (List ℕ)). word.now) words bytes

-- the bytes are a reserved word of the language
unfoldable pub is_reserved : List ℕ → Bool
is_reserved bytes = word_is_one_of (λ word. word.now) RESERVED bytes

abbrev pub can_name : List ℕ → Bool
can_name word = is_name word && (nat_le (length word) MOST_NAME_BYTES && not (is_reserved word))
