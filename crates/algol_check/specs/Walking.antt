-- What a walk notes from one state of the checker to another.
use Rattle.std.specs.Prelude.{◌≡◌, Bool, false, List, [], ◌∷◌, ◌++◌, map}
use Rattle.std.specs.List.{flat_map}
use Rattle.algol_tree.specs.declared.token.Spot.{Spot}
use Rattle.algol_tree.specs.declared.tree.Kind.{Kind}
use Rattle.algol_tree.specs.declared.tree.Named.{Named}
use Rattle.algol_tree.specs.Plain.{PExpr, PStmt, PStmts, PBody}
use Rattle.algol_tree.specs.Blocks as blocks'
use Rattle.algol_tree.specs.Blocks.{Block, blocks_of, blocks_in_stmts, blocks_in_body}
use Rattle.algol_tree.specs.Surroundings.{Surroundings}
use Rattle.algol_tree.specs.Sites.{Site, here_stmt, inside_stmt, sites, sites_in_stmts, sites_in_body}
use Rattle.algol_tree.specs.Accepted.{noted_all}
use Rattle.algol_rules.specs.declared.fault.Faults.{Faults}
use Rattle.algol_sites.specs.Labelling.{standing_as, standings_at, labels_at}
use Rattle.algol_sites.specs.Noting.{mistyped, noted_along, noted_at}
use Rattle.algol_frames.specs.declared.scopes.Scopes.{Scopes}
use Rattle.algol_told.specs.Telling.{ScopesTell, TellsAll}
use Rattle.algol_sites.specs.declared.place.Place.{Place}
use Rattle.algol_sites.specs.Placing.{AreFound, SiteIsPlaced, BlockNumbers, outer_of}
use Rattle.algol_sites.specs.Seeing.{for_site}
use Rattle.algol_check.specs.declared.checker.Checker.{Checker}
use Rattle.algol_check.specs.declared.checker.Begin.{Begin}
use Rattle.algol_check.specs.declared.checker.Begin.TheVariants as begins

abbrev pub begin_as : Begin → blocks'.Begin
begin_as begins.OfStatement = blocks'.of_statement
begin_as begins.OfProcedure = blocks'.of_procedure

-- The place is in the block of these surroundings, and the scopes tell the numbers of the blocks.
pub record PlaceIsAt (scopes : Scopes) (blocks : List Block) (place : Place) (a : Surroundings) : Type 0 where
  pub placed : SiteIsPlaced blocks place a
  pub numbers : BlockNumbers scopes blocks

-- the place is as it was
pub record Stays (old new : Checker) : Type 0 where
  pub block : new.place.block ≡ old.place.block
  pub outer : new.place.around.items ≡ old.place.around.items

-- what is at these parts was noted
pub record PartsNoted (blocks : List Block) (old new : Checker) (parts : List Site) : Type 0 where
  pub faults : new.faults.first ≡ noted_along blocks old.faults.first parts
  pub labels : new.labels.items ≡ old.labels.items ++ flat_map labels_at parts
  pub standings : map standing_as new.standings.items ≡ map standing_as old.standings.items ++ flat_map standings_at parts

-- A walk over parts of whose names the scopes tell, in which blocks begin: `inner`, by the blocks around them.
pub record CheckWalks (scopes : Scopes) (old new : Checker) (inner : List Spot → List Block) (parts : List Block → Surroundings → List Site) : Type 0 where
  pub stays : Stays old new
  pub notes : (blocks : List Block) (a : Surroundings) → PlaceIsAt scopes blocks old.place a → TellsAll scopes (parts blocks a) →
      AreFound blocks (inner (outer_of old.place)) → PartsNoted blocks old new (parts blocks a)

-- ---- parts of a tree

abbrev pub no_blocks : List Spot → List Block
no_blocks outer = []

-- a statement, and what is in it
abbrev pub stmt_sites : PStmt → blocks'.Begin → Bool → List Block → Surroundings → List Site
stmt_sites s begin listed blocks a = here_stmt s listed a ∷ inside_stmt blocks s begin listed a

abbrev pub WalksStmt : Scopes → Checker → Checker → PStmt → blocks'.Begin → Bool → Type 0
WalksStmt scopes old new s begin listed = CheckWalks scopes old new (blocks_of s begin) (stmt_sites s begin listed)

abbrev pub WalksStmts : Scopes → Checker → Checker → PStmts → Bool → Type 0
WalksStmts scopes old new ss listed = CheckWalks scopes old new (blocks_in_stmts ss) (λ blocks a. sites_in_stmts blocks ss listed a)

abbrev pub WalksBody : Scopes → Checker → Checker → PBody → Type 0
WalksBody scopes old new b = CheckWalks scopes old new (blocks_in_body b) (λ blocks a. sites_in_body blocks b a)

-- ---- parts of statements

-- an expression of which this type is wanted was noted
abbrev pub IsTyped : Scopes → Checker → Faults → Kind → PExpr → Type 0
IsTyped scopes c f k e =
    (blocks : List Block) (a : Surroundings) → TellsAll scopes (sites e a) →
    f.first ≡ noted_along blocks (noted_all c.faults.first (mistyped k e a)) (sites e a)

-- what stands before the statement of FOR was noted
abbrev pub IsCounted : Scopes → Checker → Faults → Named → PExpr → PExpr → PExpr → Type 0
IsCounted scopes c f v x s l =
    (blocks : List Block) (a : Surroundings) (t : PStmt) (listed : Bool) → ScopesTell scopes a v → TellsAll scopes (sites x a ++ sites s a ++ sites l a) →
    f.first ≡ noted_along blocks (noted_at blocks c.faults.first (for_site v x s l t listed a)) (sites x a ++ sites s a ++ sites l a)

-- A walk over a statement, after an expression of which this type is wanted.
pub record WalksGuarded (scopes : Scopes) (old new : Checker) (k : Kind) (e : PExpr) (s : PStmt) : Type 0 where
  pub faults : Faults
  pub typed : IsTyped scopes old faults k e
  pub walks : WalksStmt scopes (record old { faults = faults }) new s blocks'.of_statement false
