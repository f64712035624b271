-- What a text is answered with.
use Rattle.std.specs.Prelude.{◌≡◌, ◌≤◌, ℕ, List, length}
use Rattle.algol_tree.specs.declared.TheConstants.{MOST_SOURCE_BYTES}
use Rattle.algol_tree.specs.declared.token.Spot.{Spot}
use Rattle.algol_tree.specs.declared.refusal.Code.{Code}
use Rattle.algol_tree.specs.Plain.{PProgram}
use Rattle.algol_tree.specs.First.{Source, First}

-- accepted, with this tree, or refused at that spot for that reason
pub data FrontAnswer : Type 0 where
  accepted : PProgram → FrontAnswer
  refused : Spot → Code → FrontAnswer

-- The text is an accepted source with the tree, or it is refused there first for that reason.
abbrev pub IsAnswered : List ℕ → FrontAnswer → Type 0
IsAnswered bytes (accepted tree) = Source bytes tree
IsAnswered bytes (refused spot code) = First bytes spot code

-- The text has an answer, and no other.
pub record HasOneAnswer (bytes : List ℕ) : Type 0 where
  pub answer : FrontAnswer
  pub is : IsAnswered bytes answer
  pub only : (other : FrontAnswer) → IsAnswered bytes other → other ≡ answer

abbrev pub EachTextHasOneAnswer : Type 0
EachTextHasOneAnswer = (bytes : List ℕ) → length bytes ≤ MOST_SOURCE_BYTES → HasOneAnswer bytes
