-- The symbol at the front of a text.
use Rattle.std.specs.Prelude.{◌≡◌, ℕ, ◌≤◌, List, ◌++◌, length}
use Rattle.algol_tree.specs.declared.token.Symbol.{Symbol}
use Rattle.algol_tree.specs.Spelling.{drawn}

-- the symbol that the text begins with, the longest first
pub record BeginsWithSymbol (text : List ℕ) (symbol : Symbol) : Type 0 where
  pub after : List ℕ
  pub split : text ≡ drawn symbol ++ after
  pub longest : (other : Symbol) (rest : List ℕ) → text ≡ drawn other ++ rest → length (drawn other) ≤ length (drawn symbol)
