-- The rules of names and limits. Each is the list of places at which a tree breaks it.
use Rattle.std.specs.Prelude.{ℕ, ◌+◌, ◌==◌, ◌&&◌, if◌then◌else◌, nat_lt, not, Bool, true, false, List, [], ◌∷◌, ◌++◌, map, filter, is_some, slice_get, Option, Some, None}
use Rattle.std.specs.List.{flat_map}
use Rattle.algol_tree.specs.declared.TheConstants.{MOST_BLOCK_CELLS, MOST_SEGMENT_TOKENS, MOST_LEVEL, MOST_PROCEDURES}
use Rattle.algol_tree.specs.declared.token.Spot.{Spot}
use Rattle.algol_tree.specs.declared.tree.Named.{Named}
use Rattle.algol_tree.specs.declared.tree.Heading.{Heading}
use Rattle.algol_tree.specs.declared.tree.Spec.{Spec}
use Rattle.algol_tree.specs.declared.tree.Spec.TheVariants as specs
use Rattle.algol_tree.specs.Plain as tree
use Rattle.algol_tree.specs.Plain.{PExpr, PStmt, PDecl, PDecls, PBody, PProgram}
use Rattle.algol_tree.specs.Sorts.{same_name, is_named_in, Declared}
use Rattle.algol_tree.specs.Blocks.{Block, same_spot, spot_of, block_numbered, number_at}
use Rattle.algol_tree.specs.Surroundings.{Surroundings, declared_as, body_of}
use Rattle.algol_tree.specs.Sites as site
use Rattle.algol_tree.specs.Sites.{Part, Site}
use Rattle.algol_tree.specs.Scopes.{names_in}
use Rattle.algol_tree.specs.Cells.{Cell, level_at, level_of, first_spot, has_cell, cells_of}
use Rattle.algol_tree.specs.Counts.{heading_tokens, stmt_tokens, program_tokens}

abbrev pub if_so : Bool → Spot → List Spot
if_so true spot = spot ∷ []
if_so false spot = []

-- the places of those names
abbrev pub places_if : (Named → Bool) → List Named → List Spot
places_if test ns = flat_map (λ (n : Named). if_so (test n) n.spot) ns

abbrev pub names_of_spec : Spec → List Named
names_of_spec (specs.Simple kind ns) = ns
names_of_spec (specs.Events ns) = ns
names_of_spec (specs.Arrays kind ns lows) = ns

-- the names that the specifications of a heading speak of
abbrev pub specified : Heading → List Named
specified h = flat_map names_of_spec h.specs

-- ---- unknown names: a name that no declaration makes known where it stands, a FORWARD without its body, and a name of VALUE or of a
-- specification that is no parameter

abbrev pub is_no_parameter : Heading → Named → Bool
is_no_parameter h n = not (is_named_in h.params n.name)

abbrev pub unknown_in_heading : Heading → List Spot
unknown_in_heading h = places_if (is_no_parameter h) h.values ++ places_if (is_no_parameter h) (specified h)

abbrev pub unknown_in_decl : PDecl → PDecls → List Spot
unknown_in_decl (tree.forward h) later = if_so (not (is_some (body_of h.name.name later))) h.name.spot ++ unknown_in_heading h
unknown_in_decl (tree.procedure h s) later = unknown_in_heading h
unknown_in_decl (tree.simple kind ns) later = []
unknown_in_decl (tree.files ns) later = []
unknown_in_decl (tree.events ns) later = []
unknown_in_decl (tree.tasks ns) later = []
unknown_in_decl (tree.labels ns) later = []
unknown_in_decl (tree.arrays kind ns pairs) later = []

abbrev pub unknown_in_part : Part → Surroundings → List Spot
unknown_in_part (site.declaration d later) a = unknown_in_decl d later
unknown_in_part p a = places_if (λ (n : Named). not (is_some (declared_as a n))) (names_in p)

abbrev pub unknown_names : Site → List Spot
unknown_names x = unknown_in_part x.part x.around

-- ---- names declared twice in one block: among its parameters, the name of a typed procedure whose block it is, and its
-- declarations; a procedure whose FORWARD stands before is one declaration with it. Also a parameter that is specified twice.

abbrev pub name_is_one_of : List (List ℕ) → List ℕ → Bool
name_is_one_of [] name = false
name_is_one_of (m ∷ ms) name = if same_name m name then true else name_is_one_of ms name

-- the names that stand in the list before, or are among these
abbrev pub repeated : List (List ℕ) → List Named → List Spot
repeated seen [] = []
repeated seen (n ∷ ns) = if_so (name_is_one_of seen n.name) n.spot ++ repeated (n.name ∷ seen) ns

abbrev pub result_names : Heading → List (List ℕ)
result_names h = if is_some h.kind then h.name.name ∷ [] else []

abbrev pub twice_in_heading : Heading → List Spot
twice_in_heading h = repeated (result_names h) h.params ++ repeated [] (specified h)

-- the names that this block has before the place
abbrev pub names_here : Surroundings → List (List ℕ)
names_here a = map (λ (d : Declared). d.name) (filter (λ (d : Declared). d.block == a.block) a.known)

abbrev pub result_names_of : Block → List (List ℕ)
result_names_of b = if is_some b.result then b.name ∷ [] else []

-- a FORWARD of this heading is the last that its block says of the name
abbrev pub is_announced_by : ℕ → Heading → Option Declared → Bool
is_announced_by block h None = false
is_announced_by block h (Some d) = (d.block == block) && same_spot d.spot h.name.spot

module _ (blocks : List Block) where
  abbrev pub twice_here : Surroundings → List Named → List Spot
  twice_here a ns = repeated (result_names_of (block_numbered blocks a.block) ++ names_here a) ns

  abbrev pub twice_in_decl : PDecl → Surroundings → List Spot
  twice_in_decl (tree.simple kind ns) a = twice_here a ns
  twice_in_decl (tree.files ns) a = twice_here a ns
  twice_in_decl (tree.events ns) a = twice_here a ns
  twice_in_decl (tree.tasks ns) a = twice_here a ns
  twice_in_decl (tree.labels ns) a = twice_here a ns
  twice_in_decl (tree.arrays kind ns pairs) a = twice_here a ns
  twice_in_decl (tree.forward h) a = twice_here a (h.name ∷ []) ++ twice_in_heading h
  twice_in_decl (tree.procedure h s) a =
      (if is_announced_by a.block h (declared_as a h.name) then [] else twice_here a (h.name ∷ [])) ++ twice_in_heading h

  abbrev pub twice_in_part : Part → Surroundings → List Spot
  twice_in_part (site.declaration d later) a = twice_in_decl d a
  twice_in_part _ a = []

  abbrev pub declared_twice : Site → List Spot
  declared_twice x = twice_in_part x.part x.around

-- ---- too many levels: of a block or a procedure, or of an actual with a cell, which is evaluated one level deeper than where it stands

abbrev pub is_too_deep : ℕ → Bool
is_too_deep level = nat_lt MOST_LEVEL level

abbrev pub deep_blocks : List Block → List Spot
deep_blocks bs = flat_map (λ (b : Block). if_so (is_too_deep (level_of b)) b.spot) bs

abbrev pub deep_part : Part → Surroundings → List Spot
deep_part (site.actual e f) a = if_so (has_cell e f a && is_too_deep (level_at (a.depth + 1))) (first_spot e)
deep_part _ a = []

abbrev pub deep_actuals : Site → List Spot
deep_actuals x = deep_part x.part x.around

-- ---- too many cells of a block, and too many procedures: the place of the first beyond the limit

abbrev pub found_place : Option Spot → List Spot
found_place None = []
found_place (Some spot) = spot ∷ []

abbrev pub place_beyond : ℕ → List Spot → List Spot
place_beyond most spots = found_place (slice_get spots most)

abbrev pub cells_beyond : List Block → List Site → List Spot
cells_beyond blocks ss =
    flat_map
    (λ (b : Block). place_beyond MOST_BLOCK_CELLS (map (λ (c : Cell). c.spot) (cells_of blocks ss (number_at blocks b.spot))))
    blocks

-- a block with a name is that of a procedure
abbrev pub procedures : List Block → List Block
procedures blocks = filter (λ (b : Block). not (same_name b.name [])) blocks

abbrev pub procedures_beyond : List Block → List Spot
procedures_beyond blocks = place_beyond MOST_PROCEDURES (map (λ (b : Block). b.spot) (procedures blocks))

-- ---- segments that are too long

-- a segment of code: the place of the program's BEGIN or of the procedure's name, and how many tokens its text has
pub record Segment : Type 0 where
  pub spot : Spot
  pub tokens : ℕ

abbrev pub segments_of_part : Part → List Segment
segments_of_part (site.declaration (tree.procedure h s) later) =
    record { spot = h.name.spot; tokens = heading_tokens h + stmt_tokens s } ∷ []
segments_of_part _ = []

abbrev pub program_segment : PProgram → Segment
program_segment (tree.program b) = record { spot = spot_of b; tokens = program_tokens (tree.program b) }

-- the program's, then those of the procedures in the order of the text
abbrev pub segments : PProgram → List Site → List Segment
segments p ss = program_segment p ∷ flat_map (λ (x : Site). segments_of_part x.part) ss

abbrev pub long_segments : PProgram → List Site → List Spot
long_segments p ss = flat_map (λ (s : Segment). if_so (nat_lt MOST_SEGMENT_TOKENS s.tokens) s.spot) (segments p ss)
