-- What is noted of declarations, and where blocks begin.
use Rattle.std.specs.Prelude.{◌≡◌, List, [], ◌∷◌, ◌++◌, Bool, true, false}
use Rattle.algol_tree.specs.declared.tree.Heading.{Heading}
use Rattle.algol_tree.specs.Plain as tree
use Rattle.algol_tree.specs.Plain.{PBody, PDecl, PDecls, PStmt}
use Rattle.algol_tree.specs.Sorts.{Declared}
use Rattle.algol_tree.specs.Blocks.{Begin, of_procedure, of_statement, Block, begin_block, begin_outer, blocks_in_decl, blocks_in_decls, procedure_block}
use Rattle.algol_tree.specs.Surroundings.{Surroundings, inside, inside_procedure, knowing}
use Rattle.algol_tree.specs.Sites as site
use Rattle.algol_tree.specs.Sites.{Site, has_decls, inside_decl, sites_in_decls}
use Rattle.algol_sites.specs.declared.place.Place.{Place}
use Rattle.algol_sites.specs.Placing.{AreFound, BlockIsFound, SiteIsPlaced, outer_of}
use Rattle.algol_frames.specs.declared.scopes.Scopes.{Scopes}
use Rattle.algol_told.specs.Telling.{TellsAll}
use Rattle.algol_check.specs.declared.checker.Checker.{Checker}
use Rattle.algol_check.specs.Walking.{PlaceIsAt, PartsNoted, Stays}

-- A walk over one declaration, before these; `first` is what is known where its block begins.
pub record WalksDecl (scopes : Scopes) (old new : Checker) (d : PDecl) (later : PDecls) : Type 0 where
  pub stays : Stays old new
  pub notes : (blocks : List Block) (a : Surroundings) (first : List Declared) → PlaceIsAt scopes blocks old.place a →
      TellsAll scopes (record { part = site.declaration d later; around = a } ∷ inside_decl blocks d (knowing blocks d later a) first) →
      AreFound blocks (blocks_in_decl d (outer_of old.place)) →
      PartsNoted blocks old new (record { part = site.declaration d later; around = a } ∷ inside_decl blocks d (knowing blocks d later a) first)

-- A walk over declarations.
pub record WalksDecls (scopes : Scopes) (old new : Checker) (ds : PDecls) : Type 0 where
  pub stays : Stays old new
  pub notes : (blocks : List Block) (a : Surroundings) (first : List Declared) → PlaceIsAt scopes blocks old.place a → TellsAll scopes (sites_in_decls blocks ds a first) →
      AreFound blocks (blocks_in_decls ds (outer_of old.place)) → PartsNoted blocks old new (sites_in_decls blocks ds a first)

-- ---- where blocks begin and end

abbrev pub decls_in : PBody → PDecls
decls_in (tree.body spot ds ss) = ds

-- a block begins there
abbrev pub begins : Begin → PBody → Bool
begins of_procedure b = false
begins of_statement b = has_decls (decls_in b)

-- the place is in the BEGIN
pub record PlaceEnters (old new : Place) (b : PBody) (begin : Begin) : Type 0 where
  pub outer : outer_of new ≡ begin_outer begin b (outer_of old)
  pub placed : (blocks : List Block) (a : Surroundings) → SiteIsPlaced blocks old a → AreFound blocks (begin_block begin b (outer_of old)) →
      SiteIsPlaced blocks new (inside blocks begin b a)

-- a block of a statement began
abbrev pub BlockOpens : Bool → Place → Place → Type 0
BlockOpens true old new = new.around.items ≡ old.around.items ++ old.block ∷ []
BlockOpens false old new = (new.block ≡ old.block) × (new.around.items ≡ old.around.items)

-- the procedure's block began
pub record EntersProcedure (old new : Place) (h : Heading) : Type 0 where
  pub block : new.block ≡ h.name.spot
  pub outer : new.around.items ≡ old.around.items ++ old.block ∷ []
  pub placed : (blocks : List Block) (a : Surroundings) (s : PStmt) → SiteIsPlaced blocks old a → BlockIsFound blocks (procedure_block h s (outer_of old)) →
      SiteIsPlaced blocks new (inside_procedure blocks h a)
