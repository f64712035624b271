-- What the scopes tell of the names at a part of a tree.
use Rattle.std.specs.Prelude.{◌≡◌, List, map, Some}
use Rattle.std.specs.List.{AllByRecursion}
use Rattle.algol_tree.specs.declared.tree.Named.{Named}
use Rattle.algol_tree.specs.declared.tree.Heading.{Heading}
use Rattle.algol_tree.specs.Plain.{PProgram}
use Rattle.algol_tree.specs.Classes as class
use Rattle.algol_tree.specs.Sorts.{Declared, formals_of}
use Rattle.algol_tree.specs.Surroundings.{Surroundings, declared_as}
use Rattle.algol_tree.specs.Sites.{Site}
use Rattle.algol_tree.specs.Cells.{level_at}
use Rattle.algol_tree.specs.Scopes.{names_in}
use Rattle.algol_tree.specs.Accepted.{sites_of}
use Rattle.algol_tree.specs.Ascending.{IsInOrder}
use Rattle.algol_sorts.specs.Sorts.{parameter_of, sort_of}
use Rattle.algol_frames.specs.declared.scopes.Declared as laid
use Rattle.algol_frames.specs.declared.scopes.Scopes.{Scopes}
use Rattle.algol_scope.specs.Resolved.{AreOf, declaration_of, parameters_of}

-- A procedure is declared where its heading has its name, and the scopes tell there what its parameters are declared as.
pub record TellsHeading (s : Scopes) (d : Declared) (h : Heading) : Type 0 where
  pub spot : d.spot ≡ h.name.spot
  pub parameters : parameters_of s d.spot ≡ Some (map parameter_of (formals_of h))

-- The name has a declaration here, and the scopes tell it under the name's place.
pub record ScopesTell (s : Scopes) (a : Surroundings) (n : Named) : Type 0 where
  pub declared : Declared
  pub found : declared_as a n ≡ Some declared
  pub told : laid.Declared
  pub answers : declaration_of s n.spot ≡ Some told
  pub spot : told.spot ≡ declared.spot
  pub block : told.block ≡ declared.block
  pub level : told.level ≡ level_at declared.depth
  pub sort : told.sort ≡ sort_of declared
  pub heading : (h : Heading) → declared.class ≡ class.procedure h → TellsHeading s declared h

-- the names that a part uses
abbrev pub TellsAt : Scopes → Site → Type 0
TellsAt s x = AllByRecursion (ScopesTell s x.around) (names_in x.part)

abbrev pub TellsAll : Scopes → List Site → Type 0
TellsAll s xs = AllByRecursion (TellsAt s) xs

abbrev pub EachPartIsTold : Type 0
EachPartIsTold = (p : PProgram) (s : Scopes) → IsInOrder p → AreOf p s → TellsAll s (sites_of p)
