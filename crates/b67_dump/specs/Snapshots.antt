-- What is shown of a world: each instance that is not left, and of its cells those that have come to be.
use Rattle.std.specs.Prelude.{ℕ, ◌+◌, if◌then◌else◌, Bool, true, false, List, [], ◌∷◌, ◌++◌, map, Option, Some, None, codes}
use Rattle.std.specs.List.{flat_map}
use Rattle.std.specs.Fmt.{decimal}
use Rattle.algol_tree.specs.declared.tree.Kind.{Kind}
use Rattle.algol_tree.specs.declared.tree.Named.{Named}
use Rattle.algol_tree.specs.Plain as tree
use Rattle.algol_tree.specs.Plain.{PDecl, PDecls}
use Rattle.algol_tree.specs.Sorts.{Parameter, same_name}
use Rattle.algol_tree.specs.Blocks.{Block, block_numbered}
use Rattle.algol_tree.specs.Scopes.{Scopes}
use Rattle.algol_meaning.specs.Value.{Cell}
use Rattle.algol_meaning.specs.World.{NamedCell, Instance, World}
use Rattle.b67_dump.specs.Cells.{spot_text, cell_lines}

-- ---- the names of a block that have cells, in the order of declaration

abbrev pub texts_of_names : List Named → List (List ℕ)
texts_of_names ns = map (λ (n : Named). n.name) ns

-- procedures, labels and files have no cells that are shown
abbrev pub texts_in_declaration : PDecl → List (List ℕ)
texts_in_declaration (tree.simple kind ns) = texts_of_names ns
texts_in_declaration (tree.events ns) = texts_of_names ns
texts_in_declaration (tree.tasks ns) = texts_of_names ns
texts_in_declaration (tree.arrays kind ns pairs) = texts_of_names ns
texts_in_declaration (tree.files ns) = []
texts_in_declaration (tree.labels ns) = []
texts_in_declaration (tree.forward h) = []
texts_in_declaration (tree.procedure h s) = []

abbrev pub declared_in : PDecls → List (List ℕ)
declared_in tree.no_decls = []
declared_in (tree.decls d ds) = texts_in_declaration d ++ declared_in ds

abbrev pub parameter_names : List Parameter → List (List ℕ)
parameter_names ps = map (λ (p : Parameter). p.name) ps

-- the result of a typed procedure has the procedure's name
abbrev pub result_names : Option Kind → List ℕ → List (List ℕ)
result_names None name = []
result_names (Some kind) name = name ∷ []

-- parameters first, then the result, then what is declared
abbrev pub shown_names : Block → List (List ℕ)
shown_names b = parameter_names b.parameters ++ result_names b.result b.name ++ declared_in b.decls

-- ---- instances

-- the cell of that name, none where it has not come to be
abbrev pub cell_named : List NamedCell → List ℕ → Option Cell
cell_named [] name = None
cell_named (c ∷ cells) name = if same_name c.name name then Some c.cell else cell_named cells name

abbrev pub lines_if_any : List ℕ → Option Cell → List (List ℕ)
lines_if_any name None = []
lines_if_any name (Some c) = cell_lines name c

-- the lines of the cell of that name, if it has come to be
abbrev pub lines_named : List NamedCell → List ℕ → List (List ℕ)
lines_named cells name = lines_if_any name (cell_named cells name)

-- of the cells of these names, in the order of the names
abbrev pub named_lines : List NamedCell → List (List ℕ) → List (List ℕ)
named_lines cells names = flat_map (lines_named cells) names

-- the number of an instance, the process in whose stack it stands, the instance around it by the text, and where its block begins
abbrev pub head_line : ℕ → Instance → Block → List ℕ
head_line number x b =
    codes "INSTANCE " ++ decimal number ++ codes " PROCESS " ++ decimal x.process ++ codes " PARENT " ++ decimal x.parent ++ codes " AT " ++ spot_text b.spot

abbrev pub instance_lines : ℕ → Instance → Block → List (List ℕ)
instance_lines number x b = head_line number x b ∷ named_lines x.cells (shown_names b)

abbrev pub unless_left : Bool → List (List ℕ) → List (List ℕ)
unless_left true lines = []
unless_left false lines = lines

-- of these instances, the first of which has that number: those that are not left, in the order of their making
abbrev pub instances_lines : Scopes → ℕ → List Instance → List (List ℕ)
instances_lines sc number [] = []
instances_lines sc number (x ∷ xs) = unless_left x.left (instance_lines number x (block_numbered sc.blocks x.block)) ++ instances_lines sc (number + 1) xs

abbrev pub snapshot : Scopes → World → List (List ℕ)
snapshot sc w = instances_lines sc 1 w.instances
