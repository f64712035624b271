-- What a name means in an accepted source.
use Rattle.std.specs.Prelude.{◌≡◌, ◌≤◌, ℕ, Bool, true, false, List, [], ◌∷◌, ◌++◌, map, Some}
use Rattle.std.specs.List.{AllByRecursion, Contains, flat_map}
use Rattle.algol_tree.specs.declared.tree.Named.{Named}
use Rattle.algol_tree.specs.Plain as tree
use Rattle.algol_tree.specs.Plain.{PDecl, PProgram}
use Rattle.algol_tree.specs.Sorts as sort
use Rattle.algol_tree.specs.Sorts.{Declared, Sort}
use Rattle.algol_tree.specs.Blocks.{Block, blocks_of_program}
use Rattle.algol_tree.specs.Surroundings.{Surroundings, declared_as, inside_procedure, knowing}
use Rattle.algol_tree.specs.Sites as site
use Rattle.algol_tree.specs.Sites.{Part, Site}
use Rattle.algol_tree.specs.Scopes.{names_in}
use Rattle.algol_tree.specs.Names.{specified}
use Rattle.algol_tree.specs.Cells.{Couple, couple_in}
use Rattle.algol_tree.specs.Couples.{declaration_at, located}
use Rattle.algol_tree.specs.Accepted.{sites_of}
use Rattle.algol_tree.specs.First.{Source}

-- ---- the names of a tree

-- a name that stands in the text, and what is around it
pub record NameAt : Type 0 where
  pub name : Named
  pub around : Surroundings

abbrev pub names_from : Surroundings → List Named → List NameAt
names_from a ns = map (λ (n : Named). record { name = n; around = a }) ns

module _ (blocks : List Block) where
  -- The names that a declaration declares are seen from after it, and those of a heading from inside its procedure. In the heading of a
  -- FORWARD only the procedure's own name has a declaration.
  abbrev pub names_in_decl : PDecl → Surroundings → List NameAt
  names_in_decl (tree.simple kind ns) a = names_from a ns
  names_in_decl (tree.files ns) a = names_from a ns
  names_in_decl (tree.events ns) a = names_from a ns
  names_in_decl (tree.tasks ns) a = names_from a ns
  names_in_decl (tree.labels ns) a = names_from a ns
  names_in_decl (tree.arrays kind ns pairs) a = names_from a ns
  names_in_decl (tree.forward h) a = names_from a (h.name ∷ [])
  names_in_decl (tree.procedure h s) a = names_from a (h.name ∷ []) ++ names_from (inside_procedure blocks h a) (h.params ++ h.values ++ specified h)

  abbrev pub names_in_part : Part → Surroundings → List NameAt
  names_in_part (site.declaration d later) a = names_in_decl d (knowing blocks d later a)
  names_in_part p a = names_from a (names_in p)

  abbrev pub names_at : Site → List NameAt
  names_at x = names_in_part x.part x.around

-- all names that are used or declared, and those of the headings of procedures
abbrev pub names_of_program : PProgram → List NameAt
names_of_program tree = flat_map (names_at (blocks_of_program tree)) (sites_of tree)

-- ---- what they mean

-- The declaration is one of this name that is known at the place, and no block further in has one of this name that is known there.
pub record Means (a : Surroundings) (n : Named) (d : Declared) : Type 0 where
  pub known : Contains a.known d
  pub named : d.name ≡ n.name
  pub innermost : (other : Declared) → Contains a.known other → other.name ≡ n.name → other.depth ≤ d.depth

-- a label and a file have no cell
abbrev pub takes_cell : Sort → Bool
takes_cell sort.label = false
takes_cell sort.file = false
takes_cell _ = true

-- The name means one declaration there, which the scopes find, and they hold it under the name's place, with the couple of its cell.
pub record HasOne (tree : PProgram) (a : Surroundings) (n : Named) : Type 0 where
  pub declared : Declared
  pub found : declared_as a n ≡ Some declared
  pub means : Means a n declared
  pub only : (other : Declared) → Means a n other → other ≡ declared
  pub held : declaration_at tree n.spot ≡ located (blocks_of_program tree) (sites_of tree) (Some declared)
  pub couple : takes_cell declared.sort ≡ true →
      (its : Couple) × (couple_in (blocks_of_program tree) (sites_of tree) declared.block declared.spot ≡ Some its)

abbrev pub EachHasOne : PProgram → Type 0
EachHasOne tree = AllByRecursion (λ (n : NameAt). HasOne tree n.around n.name) (names_of_program tree)

abbrev pub EachNameHasOne : Type 0
EachNameHasOne = (bytes : List ℕ) (tree : PProgram) → Source bytes tree → EachHasOne tree

-- Of what is known at a place no block declares a name twice. A procedure that FORWARD announces is known from there on as the heading
-- with its body, and again after that, which is one declaration.
abbrev pub EachOnce : Surroundings → Type 0
EachOnce a = (d other : Declared) → Contains a.known d → Contains a.known other → d.block ≡ other.block → d.name ≡ other.name → d ≡ other

abbrev pub NoneTwice : Type 0
NoneTwice = (bytes : List ℕ) (tree : PProgram) → Source bytes tree → AllByRecursion (λ (x : Site). EachOnce x.around) (sites_of tree)
