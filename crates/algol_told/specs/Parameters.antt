-- What the scopes tell of the parameters of a procedure, where its heading declares them and where VALUE and specifications name them.
use Rattle.std.specs.Prelude.{◌≡◌, ℕ, if◌then◌else◌, List, [], ◌∷◌, Option, Some, None}
use Rattle.std.specs.List.{AllByRecursion}
use Rattle.algol_tree.specs.declared.token.Spot.{Spot}
use Rattle.algol_tree.specs.declared.tree.Named.{Named}
use Rattle.algol_tree.specs.declared.tree.Heading.{Heading}
use Rattle.algol_tree.specs.Plain as tree
use Rattle.algol_tree.specs.Plain.{PDecl, PDecls, PProgram}
use Rattle.algol_tree.specs.Sorts.{class_in, is_named_in, same_name}
use Rattle.algol_tree.specs.Names.{repeated, result_names, specified}
use Rattle.algol_tree.specs.Sites as site
use Rattle.algol_tree.specs.Sites.{Part, Site}
use Rattle.algol_tree.specs.Accepted.{sites_of}
use Rattle.algol_tree.specs.Ascending.{IsInOrder}
use Rattle.algol_sorts.specs.Sorts.{parameter_by}
use Rattle.algol_frames.specs.declared.scopes.Declared as laid
use Rattle.algol_frames.specs.declared.scopes.Scopes.{Scopes}
use Rattle.algol_scope.specs.Resolved.{AreOf, declaration_of}

-- where the first parameter of that name stands
abbrev pub parameter_place_in : List Named → List ℕ → Option Spot
parameter_place_in [] name = None
parameter_place_in (p ∷ ps) name = if same_name p.name name then Some p.spot else parameter_place_in ps name

-- The scopes tell under the name's place the parameter that it names: where that stands, and what it is declared as.
pub record TellsParameter (s : Scopes) (h : Heading) (n : Named) : Type 0 where
  pub told : laid.Declared
  pub answers : declaration_of s n.spot ≡ Some told
  pub place : parameter_place_in h.params n.name ≡ Some told.spot
  pub sort : told.sort ≡ parameter_by (class_in h.specs n.name) (is_named_in h.values n.name)

-- .. under that of each parameter, and where VALUE or a specification names one; and none is declared or specified twice.
pub record TellsParameters (s : Scopes) (h : Heading) : Type 0 where
  pub parameters : AllByRecursion (TellsParameter s h) h.params
  pub valued : AllByRecursion (TellsParameter s h) h.values
  pub mentioned : AllByRecursion (TellsParameter s h) (specified h)
  pub once : repeated (result_names h) h.params ≡ []
  pub mentioned_once : repeated [] (specified h) ≡ []

-- of a procedure with its body
abbrev pub TellsDecl : Scopes → PDecl → PDecls → Type 0
TellsDecl s (tree.procedure h b) later = TellsParameters s h
TellsDecl s _ later = Unit {0}

-- `P`: what holds of a declaration before those after it
module _ (P : PDecl → PDecls → Type 0) where
  abbrev pub PartHas : Part → Type 0
  PartHas (site.declaration d later) = P d later
  PartHas _ = Unit {0}

  abbrev pub HasAt : Site → Type 0
  HasAt x = PartHas x.part

abbrev pub ParametersAreTold : Type 0
ParametersAreTold = (p : PProgram) (s : Scopes) → IsInOrder p → AreOf p s → AllByRecursion (HasAt (TellsDecl s)) (sites_of p)
