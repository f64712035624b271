-- Tokens are those of one program at most, and so is a text.
use Rattle.std.specs.Prelude.{◌≡◌, ℕ, List}
use Rattle.algol_tree.specs.declared.token.Token.{Token}
use Rattle.algol_tree.specs.Plain.{PProgram}
use Rattle.algol_tree.specs.Lexes.{Lexes}
use Rattle.algol_tree.specs.Programs.{Reads}

abbrev pub OneTree : Type 0
OneTree = (tokens : List Token) (tree other : PProgram) → Reads tokens tree → Reads tokens other → tree ≡ other

-- the same of the bytes of a text, by whichever tokens they are
abbrev pub OneTreeOfText : Type 0
OneTreeOfText = (bytes : List ℕ) (tokens others : List Token) (tree other : PProgram) →
    Lexes bytes tokens → Lexes bytes others → Reads tokens tree → Reads others other → tree ≡ other
