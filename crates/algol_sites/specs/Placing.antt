-- Where a place stands among the blocks of a program.
use Rattle.std.specs.Prelude.{◌≡◌, ◌<◌, ◌==◌, ℕ, Bool, false, List, [], ◌∷◌, map, length, reverse, slice_get, Option, Some, None}
use Rattle.algol_tree.specs.declared.token.Spot.{Spot}
use Rattle.algol_tree.specs.Blocks.{Block, number_at, around}
use Rattle.algol_tree.specs.Surroundings.{Surroundings}
use Rattle.algol_frames.specs.declared.scopes.Scopes.{Scopes}
use Rattle.algol_frames.specs.Answers.{block_number_of}
use Rattle.algol_scope.specs.Resolved.{number_among}
use Rattle.algol_sites.specs.declared.place.Place.{Place}

-- the blocks that a place is in, the innermost first
abbrev pub outer_of : Place → List Spot
outer_of place = place.block ∷ reverse place.around.items

-- a block begins there
abbrev pub IsBlock : List Block → Spot → Type 0
IsBlock blocks spot = number_at blocks spot < length blocks

abbrev pub AreBlocks : List Block → List Spot → Type 0
AreBlocks blocks [] = Unit {0}
AreBlocks blocks (spot ∷ spots) = IsBlock blocks spot × AreBlocks blocks spots

-- the place is in the block of these surroundings
pub record SiteIsPlaced (blocks : List Block) (place : Place) (a : Surroundings) : Type 0 where
  pub number : a.block ≡ number_at blocks place.block
  pub outer : around blocks a.block ≡ map (number_at blocks) (reverse place.around.items)
  pub are_blocks : AreBlocks blocks (outer_of place)

-- the block is the one that its place has
abbrev pub BlockIsFound : List Block → Block → Type 0
BlockIsFound blocks b = slice_get blocks (number_at blocks b.spot) ≡ Some b

abbrev pub AreFound : List Block → List Block → Type 0
AreFound blocks [] = Unit {0}
AreFound blocks (b ∷ bs) = BlockIsFound blocks b × AreFound blocks bs

-- no two blocks begin at one place
abbrev pub StandApart : List Block → Type 0
StandApart blocks = AreFound blocks blocks

-- ---- the numbers of blocks

abbrev pub is_number : Option ℕ → ℕ → Bool
is_number None block = false
is_number (Some n) block = n == block

-- the scopes tell the numbers of these blocks
abbrev pub BlockNumbers : Scopes → List Block → Type 0
BlockNumbers s blocks = (spot : Spot) → block_number_of s spot ≡ number_among 0 blocks spot
