-- What is seen after declarations and parameters of the innermost block.
use Rattle.std.specs.Prelude.{◌≡◌, ◌++◌, List}
use Rattle.algol_tree.specs.declared.tree.Heading.{Heading}
use Rattle.algol_tree.specs.declared.tree.Named.{Named}
use Rattle.algol_tree.specs.Classes as classes
use Rattle.algol_tree.specs.Sorts.{Sort, declare, declared_parameters}
use Rattle.algol_tree.specs.Surroundings.{Surroundings}
use Rattle.algol_sorts.specs.declared.sort.Sort as said
use Rattle.algol_sorts.specs.Sorts.{sort_by}
use Rattle.algol_known.specs.declared.known.Seen.{Seen}
use Rattle.algol_known.specs.declared.known.Seen.TheVariants as seens
use Rattle.algol_known.specs.declared.around.Around.{Around}
use Rattle.algol_known.specs.declared.around.Procedure.{Procedure}
use Rattle.algol_known.specs.Naming.{IsBare}
use Rattle.algol_known.specs.Looking.{plain_class}
use Rattle.algol_known.specs.Seeing.{KnownHolds, IsClass, Sees}

-- the place after a declaration of these names
abbrev pub declaring : Sort → classes.Class → List Named → Surroundings → Surroundings
declaring sort c ns a = record a { known = declare a.block a.depth sort c ns ++ a.known }

abbrev pub parameters_so : Heading → Surroundings → Surroundings
parameters_so h a = record a { known = declared_parameters a.block a.depth h ++ a.known }

-- what is declared so, and is no procedure, has this sort and this class in the definitions
abbrev pub SortStandsFor : said.Sort → Sort → classes.Class → Type 0
SortStandsFor so sort c = ((ps : List Procedure) → IsClass ps (plain_class so) c) × (so ≡ sort_by c sort)

-- The innermost block declares more names, after which the surroundings are these.
pub record Widens (old new : Around) (after : Surroundings → Surroundings) : Type 0 where
  pub outer : new.outer ≡ old.outer
  pub procedures : new.procedures ≡ old.procedures
  pub typed : new.innermost.typed ≡ old.innermost.typed
  pub before : (a : Surroundings) → Sees old seens.BeforeDeclarations a → Sees new seens.BeforeDeclarations a
  pub sees : (a : Surroundings) → Sees old seens.All a → Sees new seens.All (after a)
  pub holds : (a : Surroundings) → Sees old seens.All a → KnownHolds old a → KnownHolds new (after a)

-- The innermost block, which declares nothing yet, has parameters, after which the surroundings are these.
pub record Admits (old new : Around) (after : Surroundings → Surroundings) : Type 0 where
  pub outer : new.outer ≡ old.outer
  pub procedures : new.procedures ≡ old.procedures
  pub typed : new.innermost.typed ≡ old.innermost.typed
  pub declared : new.innermost.declared ≡ old.innermost.declared
  pub sees : (sees : Seen) (a : Surroundings) → IsBare old.innermost.declared → Sees old seens.All a → Sees old sees a → Sees new sees (after a)
  pub holds : (a : Surroundings) → IsBare old.innermost.declared → Sees old seens.All a → KnownHolds old a → KnownHolds new (after a)
