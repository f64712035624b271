-- Which texts are sources, and where a text that is none is refused.
use Rattle.std.specs.Prelude.{◌≡◌, ℕ, ◌≤◌, List, length, Some}
use Rattle.algol_tree.specs.declared.TheConstants.{MOST_SOURCE_BYTES}
use Rattle.algol_tree.specs.declared.token.Spot.{Spot}
use Rattle.algol_tree.specs.declared.token.Token.{Token}
use Rattle.algol_tree.specs.declared.refusal.Code.{Code}
use Rattle.algol_tree.specs.declared.refusal.Refusal.TheVariants as refusals
use Rattle.algol_tree.specs.Plain.{PProgram}
use Rattle.algol_tree.specs.Lexes.{Lexes, TextIsRefused}
use Rattle.algol_tree.specs.Programs.{Reads}
use Rattle.algol_tree.specs.Refused.{RefusedProgram}
use Rattle.algol_tree.specs.declared.refusal.Fault.{Fault}
use Rattle.algol_tree.specs.Accepted.{Accepted, tree_refusal}

-- the text is an accepted source, with this tree
pub record Source (bytes : List ℕ) (tree : PProgram) : Type 0 where
  pub small : length bytes ≤ MOST_SOURCE_BYTES
  pub tokens : List Token
  pub lexes : Lexes bytes tokens
  pub reads : Reads tokens tree
  pub accepted : Accepted tree

-- The text is refused at this spot for this reason: as a text, else as tokens of the grammar, else as a tree.
pub data First (bytes : List ℕ) : Spot → Code → Type 0 where
  in_text : (spot : Spot) (code : Code) → TextIsRefused bytes spot code → First bytes spot code
  in_grammar : (spot : Spot) (code : Code) (tokens : List Token) →
      Lexes bytes tokens → RefusedProgram tokens (refusals.At spot code) → First bytes spot code
  in_tree : (fault : Fault) (tokens : List Token) (tree : PProgram) →
      Lexes bytes tokens → Reads tokens tree → tree_refusal tree ≡ Some fault → First bytes fault.spot fault.code
