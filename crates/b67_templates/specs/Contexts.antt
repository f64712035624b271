-- Where a text stands.
use Rattle.std.specs.Prelude.{ℕ, List, Option, None, Some}
use Rattle.algol_tree.specs.declared.token.Spot.{Spot}
use Rattle.algol_tree.specs.declared.tree.Kind.{Kind}
use Rattle.b67_segment.specs.declared.code.Format.{Format}

-- what a part gives when it leaves: nothing, a value of a kind, or the place of an element of a kind
pub data Yields : Type 0 where
  nothing : Yields
  value : Kind → Yields
  element : Kind → Yields

-- what the result of a block is
abbrev pub yields_of : Option Kind → Yields
yields_of None = nothing
yields_of (Some kind) = value kind

-- The formats of the code, the number of the segment in which the text's code stands, that of its block, and the level of that block: code
-- that evaluates an actual runs one level further in, but its names are those of the block. What the text gives, and where the statements
-- after labels stand, by the places of the labels before them.
pub record Context : Type 0 where
  pub formats : List Format
  pub segment : ℕ
  pub block : ℕ
  pub level : ℕ
  pub yields : Yields
  pub labels : Spot → Option ℕ
