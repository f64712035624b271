-- The cells of a new instance; the leaving of instances; the parts above a label.
use Rattle.std.specs.Prelude.{ℕ, ◌==◌, if◌then◌else◌, Bool, true, false, List, [], ◌∷◌, ◌++◌, Option, Some, None}
use Rattle.algol_tree.specs.declared.tree.Kind.{Kind}
use Rattle.algol_tree.specs.declared.tree.Named.{Named}
use Rattle.algol_tree.specs.Plain as tree
use Rattle.algol_tree.specs.Plain.{PDecls}
use Rattle.algol_tree.specs.Sorts.{Parameter}
use Rattle.algol_tree.specs.Blocks.{Block}
use Rattle.algol_meaning.specs.Value.{initial_value, Cell, simple}
use Rattle.algol_meaning.specs.World.{NamedCell, Part, World, instance_at, with_instance}
use Rattle.algol_meaning.specs.Critical.{is_evaluation}

-- ---- the cells of a new instance

-- parameters in their order
abbrev pub parameter_cells : List Parameter → List Cell → List NamedCell
parameter_cells [] cells = []
parameter_cells (p ∷ ps) [] = []
parameter_cells (p ∷ ps) (c ∷ cells) = record { name = p.name; cell = c } ∷ parameter_cells ps cells

abbrev pub initial_cells : Kind → List Named → List NamedCell
initial_cells kind [] = []
initial_cells kind (n ∷ ns) = record { name = n.name; cell = simple (initial_value kind) } ∷ initial_cells kind ns

abbrev pub result_cells : Option Kind → List ℕ → List NamedCell
result_cells None name = []
result_cells (Some kind) name = record { name = name; cell = simple (initial_value kind) } ∷ []

abbrev pub variable_cells : PDecls → List NamedCell
variable_cells tree.no_decls = []
variable_cells (tree.decls (tree.simple kind ns) ds) = initial_cells kind ns ++ variable_cells ds
variable_cells (tree.decls _ ds) = variable_cells ds

-- parameters, the result, simple variables; arrays, events and tasks come to be by their own actions
abbrev pub fresh_cells : Block → List Cell → List NamedCell
fresh_cells b cells = parameter_cells b.parameters cells ++ result_cells b.result b.name ++ variable_cells b.decls

-- ---- leaving

abbrev pub leave : World → List ℕ → World
leave w [] = w
leave w (i ∷ is) = leave (with_instance w i (record (instance_at w i) { left = true })) is

-- the parts that are newer than the part of instance i, and from that part on
pub record Cut : Type 0 where
  pub newer : List Part
  pub from : List Part

abbrev pub is_part_of : Part → ℕ → Bool
is_part_of part i = if is_evaluation part.purpose then false else part.instance == i

abbrev pub cut_at : List Part → List Part → ℕ → Cut
cut_at newer [] i = record { newer = newer; from = [] }
cut_at newer (part ∷ parts) i =
    if is_part_of part i then record { newer = newer; from = part ∷ parts } else (cut_at (newer ++ part ∷ []) parts i)
