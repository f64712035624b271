-- Which cells of an accepted source lie where.
use Rattle.std.specs.Prelude.{◌≡◌, ℕ, List, Option, Some}
use Rattle.std.specs.List.{AllByRecursion, flat_map}
use Rattle.algol_tree.specs.declared.token.Spot.{Spot}
use Rattle.algol_tree.specs.Plain.{PProgram}
use Rattle.algol_tree.specs.Blocks.{blocks_of_program}
use Rattle.algol_tree.specs.Cells as cells
use Rattle.algol_tree.specs.Cells.{Cell, Couple, cells_at, couple_in}
use Rattle.algol_tree.specs.Couples.{actual_at, result_at}
use Rattle.algol_tree.specs.Accepted.{sites_of}
use Rattle.algol_tree.specs.First.{Source}

-- all cells of a tree, in the order of the text
abbrev pub cells_in_tree : PProgram → List Cell
cells_in_tree tree = flat_map (cells_at (blocks_of_program tree)) (sites_of tree)

-- where the cell that stands there lies in the frame of the block with this number
abbrev pub couple_of_cell : PProgram → ℕ → Spot → Option Couple
couple_of_cell tree block spot = couple_in (blocks_of_program tree) (sites_of tree) block spot

-- The cell has a couple, which no other cell of its block has. The scopes hold that of an actual under the place of its first token, and
-- that of a result under the name of its procedure.
pub record HasCouple (tree : PProgram) (c : Cell) : Type 0 where
  pub couple : Couple
  pub is : couple_of_cell tree c.block c.spot ≡ Some couple
  pub only : AllByRecursion (λ (other : Cell). other.block ≡ c.block → couple_of_cell tree other.block other.spot ≡ Some couple → other ≡ c) (cells_in_tree tree)
  pub actual : c.content ≡ cells.actual → actual_at tree c.spot ≡ Some couple
  pub result : c.content ≡ cells.result → result_at tree c.spot ≡ Some couple

abbrev pub EachCellHasOne : Type 0
EachCellHasOne = (bytes : List ℕ) (tree : PProgram) → Source bytes tree → AllByRecursion (HasCouple tree) (cells_in_tree tree)
