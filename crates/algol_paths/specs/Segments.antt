-- The segments of a program: in which of them the text of a block stands, and how many tokens each has.
use Rattle.std.specs.Prelude.{ℕ, ◌+◌, not, if◌then◌else◌, Bool, List, [], ◌∷◌, length, filter, take, Option, Some, None, slice_get}
use Rattle.algol_tree.specs.Accepted.{sites_of}
use Rattle.algol_tree.specs.Blocks.{Block, block_numbered, around}
use Rattle.algol_tree.specs.Names.{Segment, segments}
use Rattle.algol_tree.specs.Plain.{PProgram}
use Rattle.algol_tree.specs.Sorts.{same_name}

-- a block with a name is that of a procedure
abbrev pub is_procedure : Block → Bool
is_procedure b = not (same_name b.name [])

-- how many procedures stand before the block with this number
abbrev pub procedures_before : List Block → ℕ → ℕ
procedures_before bs j = length (filter is_procedure (take j bs))

-- The segment of the innermost procedure among these blocks, or the program's: the program is segment 0, and the procedures follow in
-- the order of the text.
abbrev pub segment_among : List Block → List ℕ → ℕ
segment_among bs [] = 0
segment_among bs (j ∷ js) = if is_procedure (block_numbered bs j) then procedures_before bs j + 1 else segment_among bs js

-- the segment in which the text of the block with this number stands
abbrev pub segment_of : List Block → ℕ → ℕ
segment_of bs j = segment_among bs (j ∷ around bs j)

-- how many tokens the text of a segment has
abbrev pub tokens_or_none : Option Segment → ℕ
tokens_or_none None = 0
tokens_or_none (Some s) = s.tokens

abbrev pub segment_tokens : PProgram → ℕ → ℕ
segment_tokens p number = tokens_or_none (slice_get (segments p (sites_of p)) number)
