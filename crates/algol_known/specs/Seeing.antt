-- When what the walk keeps stands for the surroundings of a place.
use Rattle.std.specs.Prelude.{◌≡◌, ℕ, Bool, true, false, List, [], map, filter, length, slice_get, min, ◌==◌, ◌+◌, ◌++◌, ◌∷◌, ◌<◌, ◌≤◌, Option, Some, None}
use Rattle.algol_tree.specs.declared.tree.Kind.TheVariants as types
use Rattle.algol_tree.specs.Classes as classes
use Rattle.algol_tree.specs.Classes.{Formal}
use Rattle.algol_tree.specs.Sorts.{Declared, look_up}
use Rattle.algol_tree.specs.Surroundings.{Surroundings, formals_of_class}
use Rattle.algol_tree.specs.Cells.{level_at}
use Rattle.algol_sorts.specs.declared.sort.Sort.{Sort}
use Rattle.algol_sorts.specs.declared.sort.Sort.TheVariants as sort
use Rattle.algol_sorts.specs.Sorts as sorts
use Rattle.algol_sorts.specs.Sorts.{parameter_of, sort_of}
use Rattle.algol_known.specs.declared.known.Class.{Class}
use Rattle.algol_known.specs.declared.known.Entry.{Entry}
use Rattle.algol_known.specs.declared.known.Seen.{Seen}
use Rattle.algol_known.specs.declared.known.Seen.TheVariants as seens
use Rattle.algol_known.specs.declared.around.Around.{Around}
use Rattle.algol_known.specs.declared.around.Procedure.{Procedure}
use Rattle.algol_known.specs.Naming.{IsBare, seen_under}
use Rattle.algol_known.specs.Looking.{looked_up, open_blocks, modes_in}

-- what a parameter is declared as, as a call sees it
abbrev pub mode_of : Formal → Sort
mode_of f = parameter_of f

abbrev pub mode_given : Option Formal → Option Sort
mode_given None = None
mode_given (Some f) = Some (mode_of f)

-- a parameter by name
abbrev pub name_parameter : Option Formal
name_parameter = Some (record { class = classes.simple types.Number; by_value = false })

abbrev pub known_is_simple : Class → Bool
known_is_simple c = sorts.sort_is_simple c.sort

-- a procedure is one of those that there are
abbrev pub IsProcedureNumber : List Procedure → Sort → ℕ → Type 0
IsProcedureNumber ps (sort.Procedure kind) number = number < length ps
IsProcedureNumber ps _ number = Unit {0}

-- The class stands for the definitions' class, as far as names and limits look at it.
pub record IsClass (ps : List Procedure) (c : Class) (d : classes.Class) : Type 0 where
  pub simple : known_is_simple c ≡ classes.is_simple d
  pub modes : modes_in ps c ≡ map mode_of (formals_of_class d)
  pub within : IsProcedureNumber ps c.sort c.procedure

-- The entry stands for the declaration.
pub record IsEntry (ps : List Procedure) (e : Entry) (d : Declared) : Type 0 where
  pub spot : e.spot ≡ d.spot
  pub block : e.block ≡ d.block
  pub level : e.level ≡ min (level_at d.depth) 255
  pub class : IsClass ps e.class d.class
  pub sort : e.class.sort ≡ sort_of d

-- What is found under a name is what the definitions find.
abbrev pub NameIsFound : List Procedure → Option Entry → Option Declared → Type 0
NameIsFound ps None None = Unit {0}
NameIsFound ps (Some e) (Some d) = IsEntry ps e d
NameIsFound ps _ _ = ⊥

-- What is seen of what the walk keeps is what is around that place.
pub record Sees (k : Around) (seen : Seen) (a : Surroundings) : Type 0 where
  pub block : k.innermost.block ≡ a.block
  pub depth : length k.outer.items ≡ a.depth
  pub names : (name : List ℕ) → NameIsFound k.procedures.items (looked_up (open_blocks k) seen name) (look_up a.known name)

-- the declarations that the block has before the place, its parameters included
abbrev pub own_declared : Surroundings → List Declared
own_declared a = filter (λ (d : Declared). d.block == a.block) a.known

-- The names of the innermost block are those of its own declarations.
pub record KnownHolds (k : Around) (a : Surroundings) : Type 0 where
  pub here : (name : List ℕ) →
      NameIsFound k.procedures.items (seen_under k.innermost.declared k.innermost.parameters seens.All name) (look_up (own_declared a) name)

-- One more declaration is known, as the entry stands for it.
pub record Declares (old new : Around) (name : List ℕ) (entry : Entry) : Type 0 where
  pub sees : (a : Surroundings) (d : Declared) → Sees old seens.All a → d.name ≡ name → IsEntry old.procedures.items entry d →
      Sees new seens.All (record a { known = d ∷ a.known })
  pub holds : (a : Surroundings) (d : Declared) → KnownHolds old a → d.name ≡ name → d.block ≡ a.block → IsEntry old.procedures.items entry d →
      KnownHolds new (record a { known = d ∷ a.known })

-- One more parameter is known, in a block that declares nothing yet.
pub record Introduces (old new : Around) (name : List ℕ) (entry : Entry) : Type 0 where
  pub sees : (sees : Seen) (a : Surroundings) (d : Declared) → IsBare old.innermost.declared → Sees old sees a → d.name ≡ name →
      IsEntry old.procedures.items entry d → Sees new sees (record a { known = d ∷ a.known })
  pub holds : (a : Surroundings) (d : Declared) → IsBare old.innermost.declared → KnownHolds old a → d.name ≡ name → d.block ≡ a.block →
      IsEntry old.procedures.items entry d → KnownHolds new (record a { known = d ∷ a.known })

-- These procedures are among those, with the same numbers.
pub record Extends (old new : List Procedure) : Type 0 where
  pub longer : length old ≤ length new
  pub same : (i : ℕ) → i < length old → slice_get new i ≡ slice_get old i

-- The same names are known, and of procedures maybe more.
pub record KnownKeeps (old new : Around) : Type 0 where
  pub innermost : new.innermost ≡ old.innermost
  pub outer : new.outer.items ≡ old.outer.items
  pub procedures : Extends old.procedures.items new.procedures.items

-- a block that has just begun inside these surroundings
abbrev pub block_begun : ℕ → Surroundings → Surroundings
block_begun block a = record { block = block; depth = a.depth + 1; known = a.known }

-- The block with this number begins.
pub record KnownOpens (old new : Around) (block : ℕ) : Type 0 where
  pub sees : (sees : Seen) (a : Surroundings) → Sees old seens.All a → Sees new sees (block_begun block a)
  pub holds : (a : Surroundings) → own_declared (block_begun block a) ≡ [] → KnownHolds new (block_begun block a)
  pub bare : IsBare new.innermost.declared
  pub outer : new.outer.items ≡ old.outer.items ++ old.innermost ∷ []
  pub procedures : new.procedures ≡ old.procedures
