-- Static parents of an instance, and the blocks around a block.
use Rattle.std.proofs.Common.{◌≡◌, refl, ap, ℕ, zero, suc, ◌+◌, List, [], ◌∷◌, length, arith}
use Rattle.b67_rows.proofs.Prelude.{Block, block_numbered, number_at, around, Spot, World, instance_at, ancestor}
use Rattle.std.specs.Prelude.{map}
use Rattle.algol_tree.specs.Cells.{level_of}
use Rattle.b67_ops.specs.declared.TheConstants.{OUTER_LEVEL}

pub ancestor_up : (w : World) (up i : ℕ) → ancestor w (suc up) i ≡ (instance_at w (ancestor w up i)).parent
ancestor_up w zero i = refl
ancestor_up w (suc up) i = ancestor_up w up ((instance_at w i).parent)

length_numbers : (bs : List Block) (spots : List Spot) → length (map (number_at bs) spots) ≡ length spots
length_numbers bs [] = refl
length_numbers bs (spot ∷ spots) = ap suc (length_numbers bs spots)

-- as many blocks are around a block as its level is above the outermost one's
pub length_around : (bs : List Block) (j : ℕ) → length (around bs j) + OUTER_LEVEL ≡ level_of (block_numbered bs j)
length_around bs j = omega (arith, length_numbers bs ((block_numbered bs j).outer))
