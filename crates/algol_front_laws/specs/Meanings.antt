-- What the scopes of an accepted source tell of the names in it.
use Rattle.std.specs.Prelude.{◌≡◌, ℕ, List, Some}
use Rattle.std.specs.List.{AllByRecursion}
use Rattle.algol_tree.specs.declared.tree.Named.{Named}
use Rattle.algol_tree.specs.Plain.{PProgram}
use Rattle.algol_tree.specs.Sorts.{Declared}
use Rattle.algol_tree.specs.Surroundings.{Surroundings}
use Rattle.algol_tree.specs.Cells.{level_at}
use Rattle.algol_tree.specs.First.{Source}
use Rattle.algol_sorts.specs.Sorts.{sort_of}
use Rattle.algol_frames.specs.declared.scopes.Declared as found
use Rattle.algol_frames.specs.declared.scopes.Scopes.{Scopes}
use Rattle.algol_scope.specs.Resolved.{AreOf, declaration_of}
use Rattle.algol_front_laws.specs.Declarations.{Means, NameAt, names_of_program}

-- The scopes have an answer under the place of the name, which is the declaration that the name means: where it stands, the number and the
-- level of its block, and what it is declared as.
pub record MeaningIsTold (scopes : Scopes) (a : Surroundings) (n : Named) : Type 0 where
  pub declared : Declared
  pub means : Means a n declared
  pub told : found.Declared
  pub answers : declaration_of scopes n.spot ≡ Some told
  pub spot : told.spot ≡ declared.spot
  pub block : told.block ≡ declared.block
  pub level : told.level ≡ level_at declared.depth
  pub sort : told.sort ≡ sort_of declared

abbrev pub EachNameIsTold : Type 0
EachNameIsTold = (bytes : List ℕ) (tree : PProgram) (scopes : Scopes) → Source bytes tree → AreOf tree scopes →
    AllByRecursion (λ (n : NameAt). MeaningIsTold scopes n.around n.name) (names_of_program tree)
