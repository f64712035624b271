-- What is noted at a place, where the scopes tell of the names there.
use Rattle.std.specs.Prelude.{◌≡◌, Bool, List, ◌∷◌, map, Option, Some, None}
use Rattle.std.specs.List.{AllByRecursion}
use Rattle.algol_tree.specs.declared.refusal.Fault.{Fault}
use Rattle.algol_tree.specs.declared.tree.Named.{Named}
use Rattle.algol_tree.specs.declared.tree.EventName.{EventName}
use Rattle.algol_tree.specs.Plain as tree
use Rattle.algol_tree.specs.Plain.{PExpr, PExprs, PStmt}
use Rattle.algol_tree.specs.Blocks.{Block, of_statement}
use Rattle.algol_tree.specs.Surroundings.{Surroundings}
use Rattle.algol_tree.specs.Sites as site
use Rattle.algol_tree.specs.Sites.{Site, inside_stmt}
use Rattle.algol_frames.specs.declared.scopes.Scopes.{Scopes}
use Rattle.algol_told.specs.Telling.{ScopesTell, TellsAll}
use Rattle.algol_sites.specs.declared.place.Place.{Place}
use Rattle.algol_sites.specs.Placing.{SiteIsPlaced}
use Rattle.algol_sites.specs.Noting.{noted_along}

-- the scopes tell of each name in an expression that stands there
module _ (s : Scopes) (a : Surroundings) where
  abbrev mutual
    pub TellsIn : PExpr → Type 0
    TellsIn (tree.number z spot) = Unit {0}
    TellsIn (tree.truth b spot) = Unit {0}
    TellsIn (tree.variable (tree.subscripted n es)) = ScopesTell s a n × TellsEach es
    TellsIn (tree.call (tree.called n es)) = ScopesTell s a n × TellsEach es
    TellsIn (tree.tested test es spot) = AllByRecursion (ScopesTell s a) (map (λ (e : EventName). e.name) es)
    TellsIn (tree.paren e spot) = TellsIn e
    TellsIn (tree.plus e spot) = TellsIn e
    TellsIn (tree.neg e spot) = TellsIn e
    TellsIn (tree.not e spot) = TellsIn e
    TellsIn (tree.two op x y) = TellsIn x × TellsIn y
    TellsIn (tree.if c x y spot) = TellsIn c × (TellsIn x × TellsIn y)

    pub TellsEach : PExprs → Type 0
    TellsEach tree.none = Unit {0}
    TellsEach (tree.more e es) = TellsIn e × TellsEach es

-- the scopes tell of the names of events
abbrev pub TellsEvents : Scopes → Surroundings → List EventName → Type 0
TellsEvents s a es = AllByRecursion (ScopesTell s a) (map (λ (e : EventName). e.name) es)

-- the scopes tell of the task of a process, where it has one
abbrev pub TellsTask : Scopes → Surroundings → Option Named → Type 0
TellsTask s a None = Unit {0}
TellsTask s a (Some n) = ScopesTell s a n

-- What is broken at parts that stand in these surroundings is noted, where the scopes tell of the names there.
pub record Notes (s : Scopes) (old new : Option Fault) (parts : List Block → Surroundings → List Site) : Type 0 where
  pub notes : (blocks : List Block) (a : Surroundings) → TellsAll s (parts blocks a) → new ≡ noted_along blocks old (parts blocks a)

-- The same where it makes a difference in which blocks they stand.
pub record NotesAt (s : Scopes) (place : Place) (old new : Option Fault) (parts : List Block → Surroundings → List Site) : Type 0 where
  pub notes : (blocks : List Block) (a : Surroundings) → TellsAll s (parts blocks a) → SiteIsPlaced blocks place a → new ≡ noted_along blocks old (parts blocks a)

-- a statement, and what is in it
abbrev pub stmt_parts : PStmt → Bool → List Block → Surroundings → List Site
stmt_parts s listed blocks a = record { part = site.statement s listed; around = a } ∷ inside_stmt blocks s of_statement listed a

-- FOR, without what is in it
abbrev pub for_site : Named → PExpr → PExpr → PExpr → PStmt → Bool → Surroundings → Site
for_site v x s l b listed a = record { part = site.statement (tree.for v x s l b) listed; around = a }
