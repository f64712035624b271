-- What begins a word, and what begins a symbol or nothing.
use Rattle.std.specs.Prelude.{◌≢◌, ℕ, Bool, ◌||◌, not, IsTrue}
use Rattle.std.specs.Char.{to_ascii_uppercase}
use Rattle.algol_tree.specs.Spelling.{is_letter, is_digit, is_blank}

-- a letter, in capitals or not, or a digit
abbrev pub in_word : ℕ → Bool
in_word b = is_letter (to_ascii_uppercase b) || is_digit b

-- no blank, letter, digit, quote or percent sign
pub record IsNoOther (b : ℕ) : Type 0 where
  pub blank : IsTrue (not (is_blank b))
  pub letter : IsTrue (not (is_letter (to_ascii_uppercase b)))
  pub digit : IsTrue (not (is_digit b))
  pub quote : b ≢ 34
  pub percent : b ≢ 37
