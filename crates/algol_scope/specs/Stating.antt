-- What the walk over statements and declarations keeps, and what it finds.
use Rattle.std.specs.Prelude.{◌≡◌, ℕ, ◌+◌, ◌<◌, ◌++◌, Bool, not, min, List, [], ◌∷◌, length, map}
use Rattle.algol_tree.specs.declared.token.Spot.{Spot}
use Rattle.algol_tree.specs.Plain.{PStmt}
use Rattle.algol_tree.specs.Sorts.{Declared, same_name}
use Rattle.algol_tree.specs.Blocks as rules
use Rattle.algol_tree.specs.Blocks.{number_at, block_numbered}
use Rattle.algol_tree.specs.Surroundings.{Surroundings}
use Rattle.algol_tree.specs.Sites.{Site, here_stmt, inside_stmt}
use Rattle.algol_tree.specs.Cells.{level_of}
use Rattle.algol_tree.specs.Names.{name_is_one_of, result_names_of}
use Rattle.algol_known.specs.declared.known.Seen.TheVariants as seens
use Rattle.algol_frames.specs.declared.found.Block.{Block}
use Rattle.algol_scope.specs.declared.resolver.Resolver.{Resolver}
use Rattle.algol_known.specs.Naming.{is_typed}
use Rattle.algol_known.specs.Seeing.{Sees, KnownHolds, KnownKeeps, Extends}
use Rattle.algol_scope.specs.Noting.{ScopeFinds}

-- the blocks of these declarations have lower numbers
abbrev pub AreBefore : ℕ → List Declared → Type 0
AreBefore n [] = Unit {0}
AreBefore n (d ∷ ds) = (d.block < n) × AreBefore n ds

-- these are the blocks with the numbers from n on
abbrev pub AreNumbered : List rules.Block → ℕ → List rules.Block → Type 0
AreNumbered blocks n [] = Unit {0}
AreNumbered blocks n (b ∷ bs) = (number_at blocks b.spot ≡ n) × ((block_numbered blocks n ≡ b) × AreNumbered blocks (n + 1) bs)

abbrev pub stated_block_of : rules.Block → Block
stated_block_of b = record { spot = b.spot; level = min (level_of b) 255; is_procedure = not (same_name b.name []) }

-- The walk stands in these surroundings, with the blocks around that stand there, the innermost first.
pub record WalkStands (r : Resolver) (a : Surroundings) (spots : List Spot) : Type 0 where
  pub sees : Sees r.around seens.All a
  pub known : AreBefore (length r.blocks.items) a.known
  pub block : a.block < length r.blocks.items
  pub outer : length spots ≡ a.depth + 1

-- The walk stands among the declarations of its block, at whose begin these were known.
pub record WalkSettles (blocks : List rules.Block) (r : Resolver) (a : Surroundings) (spots : List Spot) (first : List Declared) : Type 0 where
  pub stands : WalkStands r a spots
  pub holds : KnownHolds r.around a
  pub bounds : Sees r.around seens.BeforeDeclarations (record a { known = first })
  pub typed : (q : List ℕ) → is_typed r.around.innermost.typed q ≡ name_is_one_of (result_names_of (block_numbered blocks a.block)) q

-- These parts are found, and these blocks begin.
pub record WalkComes (blocks : List rules.Block) (old new : Resolver) (parts : List Site) (inner : List rules.Block) : Type 0 where
  pub finds : ScopeFinds blocks old.findings parts new.findings
  pub begins : new.blocks.items ≡ old.blocks.items ++ map stated_block_of inner

-- The walk goes through these parts, in which these blocks begin and end.
pub record Visits (old new : Resolver) (parts : List rules.Block → Surroundings → List Site) (inner : List Spot → List rules.Block) : Type 0 where
  pub keeps : KnownKeeps old.around new.around
  pub comes : (blocks : List rules.Block) (a : Surroundings) (spots : List Spot) → WalkStands old a spots → AreNumbered blocks (length old.blocks.items) (inner spots) →
      WalkComes blocks old new (parts blocks a) (inner spots)

-- The walk goes through declarations of the innermost block, after which the surroundings are these.
pub record WalkEnters (old new : Resolver) (parts : List rules.Block → Surroundings → List Declared → List Site) (inner : List Spot → List rules.Block)
    (after : List rules.Block → Surroundings → Surroundings) : Type 0 where
  pub outer : new.around.outer.items ≡ old.around.outer.items
  pub procedures : Extends old.around.procedures.items new.around.procedures.items
  pub comes : (blocks : List rules.Block) (a : Surroundings) (spots : List Spot) (first : List Declared) → WalkSettles blocks old a spots first →
      AreNumbered blocks (length old.blocks.items) (inner spots) → WalkComes blocks old new (parts blocks a first) (inner spots)
  pub settles : (blocks : List rules.Block) (a : Surroundings) (spots : List Spot) (first : List Declared) → WalkSettles blocks old a spots first →
      AreNumbered blocks (length old.blocks.items) (inner spots) → WalkSettles blocks new (after blocks a) spots first

-- The walk goes through the rest of the innermost block, which has just begun.
pub record Fills (old new : Resolver) (parts : List rules.Block → Surroundings → List Site) (inner : List Spot → List rules.Block) : Type 0 where
  pub outer : new.around.outer.items ≡ old.around.outer.items
  pub procedures : Extends old.around.procedures.items new.around.procedures.items
  pub comes : (blocks : List rules.Block) (a : Surroundings) (spots : List Spot) → WalkSettles blocks old a spots a.known →
      AreNumbered blocks (length old.blocks.items) (inner spots) → WalkComes blocks old new (parts blocks a) (inner spots)

-- a statement, and what is in it
abbrev pub stmt_parts : PStmt → Bool → List rules.Block → Surroundings → List Site
stmt_parts s listed blocks a = here_stmt s listed a ∷ inside_stmt blocks s rules.of_statement listed a

abbrev pub stmt_blocks : PStmt → List Spot → List rules.Block
stmt_blocks s spots = rules.blocks_of s rules.of_statement spots

-- where no block begins
abbrev pub no_blocks : List Spot → List rules.Block
no_blocks spots = []
