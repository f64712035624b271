-- Tokens are refused at one place for one reason, and not where they are a program.
use Rattle.std.specs.Prelude.{◌≡◌, List}
use Rattle.algol_tree.specs.declared.token.Spot.{Spot}
use Rattle.algol_tree.specs.declared.token.Token.{Token}
use Rattle.algol_tree.specs.declared.refusal.Code.{Code}
use Rattle.algol_tree.specs.declared.refusal.Refusal.TheVariants.{At}
use Rattle.algol_tree.specs.Plain.{PProgram}
use Rattle.algol_tree.specs.Programs.{Reads}
use Rattle.algol_tree.specs.Refused.{RefusedProgram}

abbrev pub OneRefusal : Type 0
OneRefusal = (tokens : List Token) (spot other : Spot) (code reason : Code) → RefusedProgram tokens (At spot code) → RefusedProgram tokens (At other reason) →
    (spot ≡ other) × (code ≡ reason)

abbrev pub NotRefused : Type 0
NotRefused = (tokens : List Token) (tree : PProgram) (spot : Spot) (code : Code) → Reads tokens tree → RefusedProgram tokens (At spot code) → ⊥
