-- Where the cells of blocks lie, by what the walk found.
use Rattle.std.specs.Prelude.{◌≡◌, ℕ, ◌+◌, ◌==◌, ◌&&◌, if◌then◌else◌, Bool, List, [], ◌∷◌, ◌++◌, map, slice_get, Option, Some, None}
use Rattle.std.specs.Option.{option_or}
use Rattle.std.specs.declared.alloc.Global.{Global}
use Rattle.std.specs.declared.vec.Vec.{Vec}
use Rattle.std.specs.BTreeMap.{BTreeMap, get}
use Rattle.algol_tree.specs.declared.token.Spot.{Spot}
use Rattle.algol_tree.specs.contracts.token.SpotOrd.TheImpl.{ghosts}
use Rattle.algol_tree.specs.Blocks.{same_spot}
use Rattle.algol_sorts.specs.declared.sort.Sort.{Sort}
use Rattle.algol_frames.specs.declared.found.Cell.{Cell}
use Rattle.algol_frames.specs.declared.found.Content.{Content}
use Rattle.algol_frames.specs.declared.found.Content.TheVariants as content
use Rattle.algol_frames.specs.declared.found.Use.{Use}
use Rattle.algol_frames.specs.declared.found.Block.{Block}
use Rattle.algol_frames.specs.declared.scopes.Couple.{Couple}
use Rattle.algol_frames.specs.declared.scopes.Declared.{Declared}
use Rattle.algol_frames.specs.declared.scopes.Scopes.{Scopes}
use Rattle.algol_frames.specs.Framing.{framed_cells_in}
use Rattle.algol_frames.specs.Answers.{declaration_of, actual_of, block_number_of, parameters_of, result_couple_of}

-- ---- the cells of a block in the order in which they lie

abbrev pub rank : Content → ℕ
rank content.Parameter = 0
rank content.Result = 1
rank content.Variable = 2
rank content.Procedure = 3
rank content.Actual = 4
rank content.Made = 5

abbrev pub is_of : Content → Cell → Bool
is_of content c = rank c.content == rank content

abbrev pub those_holding : Content → List Cell → List Cell
those_holding content [] = []
those_holding content (c ∷ cs) = if is_of content c then c ∷ those_holding content cs else those_holding content cs

-- first those that need no action, then those that actions make
abbrev pub laid_out : List Cell → List Cell
laid_out cs =
    those_holding content.Parameter cs ++ those_holding content.Result cs ++ those_holding content.Variable cs ++ those_holding content.Procedure cs ++
    those_holding content.Actual cs ++ those_holding content.Made cs

-- the couple of the first of these that stands there, where they lie from this index on
abbrev pub couple_from : ℕ → ℕ → List Cell → Spot → Option Couple
couple_from level index [] spot = None
couple_from level index (c ∷ cs) spot = if same_spot c.spot spot then Some (record { level = level; index = index }) else couple_from level (index + 1) cs spot

abbrev FIRST_INDEX : ℕ
FIRST_INDEX = 2

abbrev pub couple_by : Option Block → List Cell → Spot → Option Couple
couple_by None cs spot = None
couple_by (Some b) cs spot = couple_from b.level FIRST_INDEX (laid_out cs) spot

-- the couple of the cell of the block with this number that stands there
abbrev pub laid_in : List Block → BTreeMap ℕ (Vec Cell Global) → ℕ → Spot → Option Couple
laid_in blocks table block spot = couple_by (slice_get blocks block) (framed_cells_in table block) spot

-- ---- frames as tables

abbrev pub laid_under : {X : Type 0} → Option (BTreeMap Spot X) → Spot → Option X
laid_under None spot = None
laid_under (Some table) spot = get ghosts.cmp table spot

-- the couple that the frame of the block with this number has there
abbrev pub framed_in : List (BTreeMap Spot Couple) → ℕ → Spot → Option Couple
framed_in frames block spot = laid_under (slice_get frames block) spot

-- the second table has also this under the place, unless the first has something there
abbrev pub PlaceAdds : {X : Type 0} → BTreeMap Spot X → BTreeMap Spot X → Spot → Option X → Type 0
PlaceAdds old new spot found = (q : Spot) → get ghosts.cmp new q ≡ option_or (get ghosts.cmp old q) (if same_spot spot q then found else None)

-- ---- what is found in frames, by a couple for each block and place

abbrev pub declared_by : (ℕ → Spot → Option Couple) → Use → Declared
declared_by there u = record { spot = u.declared; block = u.block; level = u.level; sort = u.sort; couple = there u.block u.declared }

abbrev pub declared_from : (ℕ → Spot → Option Couple) → List Use → Spot → Option Declared
declared_from there [] spot = None
declared_from there (u ∷ us) spot = if same_spot u.spot spot then Some (declared_by there u) else declared_from there us spot

abbrev pub actual_from : (ℕ → Spot → Option Couple) → List Cell → Spot → Option Couple
actual_from there [] spot = None
actual_from there (c ∷ cs) spot =
    option_or (if is_of content.Actual c && same_spot c.spot spot then there c.block c.spot else None) (actual_from there cs spot)

-- the blocks have the numbers from n on
abbrev pub result_from : (ℕ → Spot → Option Couple) → ℕ → List Block → Spot → Option Couple
result_from there n [] spot = None
result_from there n (b ∷ bs) spot = option_or (if same_spot b.spot spot then there n b.spot else None) (result_from there (n + 1) bs spot)

-- what is told of the parameters of the procedure that is declared there
abbrev pub parameters_from : List Use → Spot → Option (List Sort)
parameters_from [] spot = None
parameters_from (u ∷ us) spot = option_or (if same_spot u.spot spot then u.parameters else None) (parameters_from us spot)

-- the blocks have the numbers from n on
abbrev pub number_from : ℕ → List Block → Spot → Option ℕ
number_from n [] spot = None
number_from n (b ∷ bs) spot = option_or (if same_spot b.spot spot then Some n else None) (number_from (n + 1) bs spot)

abbrev pub levels_of : List Block → List ℕ
levels_of blocks = map (λ (b : Block). b.level) blocks

-- These are the scopes of these blocks, which have these cells, and of these cells and names.
pub record AreLaid (blocks : List Block) (table : BTreeMap ℕ (Vec Cell Global)) (cells : List Cell) (uses : List Use) (s : Scopes) : Type 0 where
  pub declarations : (spot : Spot) → declaration_of s spot ≡ declared_from (laid_in blocks table) uses spot
  pub results : (spot : Spot) → result_couple_of s spot ≡ result_from (laid_in blocks table) 0 blocks spot
  pub actuals : (spot : Spot) → actual_of s spot ≡ actual_from (laid_in blocks table) cells spot
  pub levels : s.levels.items ≡ levels_of blocks
  pub parameters : (spot : Spot) → parameters_of s spot ≡ parameters_from uses spot
  pub numbers : (spot : Spot) → block_number_of s spot ≡ number_from 0 blocks spot
