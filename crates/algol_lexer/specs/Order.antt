-- The tokens of a text stand in its order.
use Rattle.std.specs.Prelude.{ℕ, List, map}
use Rattle.algol_tree.specs.declared.token.Token.{Token}
use Rattle.algol_tree.specs.Ascending.{Ascends}
use Rattle.algol_tree.specs.Lexes.{Lexes}

-- Each of these tokens stands before the next.
abbrev pub AreInOrder : List Token → Type 0
AreInOrder tokens = Ascends (map (λ (t : Token). t.spot) tokens)

abbrev pub TokensAscend : Type 0
TokensAscend = (bytes : List ℕ) (tokens : List Token) → Lexes bytes tokens → AreInOrder tokens
