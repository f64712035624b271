-- How many words the stack of a process may have, by what the source has open in it.
use Rattle.std.specs.Prelude.{ℕ, ◌+◌, ◌*◌, if◌then◌else◌, List, [], ◌∷◌, length}
use Rattle.algol_tree.specs.Plain.{PProgram}
use Rattle.algol_tree.specs.Scopes.{scopes_of}
use Rattle.algol_meaning.specs.World.{Part, World, instance_at, process_at}
use Rattle.algol_meaning.specs.Critical.{is_evaluation}
use Rattle.algol_paths.specs.Segments.{segment_of, segment_tokens}

-- the tokens of the segment in whose text a block stands
abbrev pub tokens_around : PProgram → ℕ → ℕ
tokens_around p block = segment_tokens p (segment_of (scopes_of p).blocks block)

-- an instance of a block: 8, its cells, and 4 for each token of the segment; an evaluation of a name has no cells
abbrev pub part_weight : PProgram → World → Part → ℕ
part_weight p w part =
    8 + (if is_evaluation part.purpose then 0 else length ((instance_at w part.instance).cells)) + 4 * tokens_around p ((instance_at w part.instance).block)

abbrev pub parts_weight : PProgram → World → List Part → ℕ
parts_weight p w [] = 0
parts_weight p w (part ∷ parts) = part_weight p w part + parts_weight p w parts

-- the open parts of a process: the instances of its stack that are not left, and the evaluations of names
abbrev pub weight : PProgram → World → ℕ → ℕ
weight p w process = parts_weight p w ((process_at w process).todo)
