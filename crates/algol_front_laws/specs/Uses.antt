-- What a run of the meaning looks up of a name that is used in an accepted source.
use Rattle.std.specs.Prelude.{◌≡◌, ◌-◌, ℕ, List, Some}
use Rattle.std.specs.List.{AllByRecursion}
use Rattle.algol_tree.specs.declared.tree.Named.{Named}
use Rattle.algol_tree.specs.Plain as tree
use Rattle.algol_tree.specs.Plain.{PProgram}
use Rattle.algol_tree.specs.Sorts.{Declared}
use Rattle.algol_tree.specs.Surroundings.{Surroundings, declared_as}
use Rattle.algol_tree.specs.Sites as site
use Rattle.algol_tree.specs.Sites.{Part, Site}
use Rattle.algol_tree.specs.Scopes.{Use, declared_in, left_use, names_in, scopes_of}
use Rattle.algol_tree.specs.Accepted.{sites_of}
use Rattle.algol_tree.specs.First.{Source}

-- a use of this declaration, so many static parents up
abbrev pub use_by_name : Surroundings → Named → Declared → Use
use_by_name a n d = record { spot = n.spot; block = d.block; up = a.depth - d.depth; sort = d.sort }

-- the same in a part of the tree: on the left of an assignment the name of a typed procedure is its result
abbrev pub use_in : Part → Surroundings → Named → Declared → Use
use_in (site.statement (tree.assign v e) listed) a n d = left_use (use_by_name a n d) d.sort
use_in part a n d = use_by_name a n d

-- The name has a declaration at its place, and what is looked up under the place of the name is a use of it.
pub record IsLookedUp (tree : PProgram) (part : Part) (a : Surroundings) (n : Named) : Type 0 where
  pub declared : Declared
  pub found : declared_as a n ≡ Some declared
  pub used : declared_in (scopes_of tree).uses n.spot ≡ Some (use_in part a n declared)

abbrev pub EachUseIsLookedUp : Type 0
EachUseIsLookedUp = (bytes : List ℕ) (tree : PProgram) → Source bytes tree →
    AllByRecursion (λ (x : Site). AllByRecursion (λ (n : Named). IsLookedUp tree x.part x.around n) (names_in x.part)) (sites_of tree)
