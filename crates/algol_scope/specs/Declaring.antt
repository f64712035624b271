-- What the walk makes of declarations.
use Rattle.std.specs.Prelude.{◌≡◌, ℕ, ◌++◌, true, List, [], ◌∷◌, length, is_some, if◌then◌else◌, Option, Some, None}
use Rattle.std.specs.BTreeMap.{BTreeMap}
use Rattle.algol_sorts.specs.declared.key.Key.{Key}
use Rattle.algol_tree.specs.declared.token.Spot.{Spot}
use Rattle.algol_tree.specs.declared.tree.Heading.{Heading}
use Rattle.algol_tree.specs.declared.tree.Named.{Named}
use Rattle.algol_tree.specs.declared.refusal.Code.TheVariants as codes
use Rattle.algol_tree.specs.declared.refusal.Fault.{Fault}
use Rattle.algol_tree.specs.Plain as tree
use Rattle.algol_tree.specs.Plain.{PStmt, PDecl, PDecls}
use Rattle.algol_tree.specs.Classes as classes
use Rattle.algol_tree.specs.Sorts.{Declared, Sort}
use Rattle.algol_tree.specs.Blocks as rules
use Rattle.algol_tree.specs.Blocks.{number_at, block_numbered, procedure_block}
use Rattle.algol_tree.specs.Surroundings.{Surroundings, announced, body_of, declare_procedure, knowing, inside_procedure}
use Rattle.algol_tree.specs.Sites as site
use Rattle.algol_tree.specs.Sites.{Site, inside_decl}
use Rattle.algol_tree.specs.Cells as cells
use Rattle.algol_tree.specs.Cells.{cells_for, result_cells}
use Rattle.algol_tree.specs.Couples.{Known, known_names, known_in_heading}
use Rattle.algol_tree.specs.Names.{twice_here}
use Rattle.algol_tree.specs.Accepted.{broken}
use Rattle.algol_known.specs.declared.around.Procedure.{Procedure}
use Rattle.algol_scope.specs.declared.declaration.Ahead.{Ahead}
use Rattle.algol_scope.specs.declared.resolver.Resolver.{Resolver}
use Rattle.algol_known.specs.Looking.{procedure_class}
use Rattle.algol_known.specs.Seeing.{IsClass}
use Rattle.algol_known.specs.Widening.{declaring}
use Rattle.algol_known.specs.Naming.{sort_named}
use Rattle.algol_scope.specs.Noting.{FindingsAdd, faults_at}
use Rattle.algol_scope.specs.Stating.{WalkSettles, stated_block_of}

-- ---- what stands ahead

-- the procedure is that of this heading with its body
pub record IsOf (ps : List Procedure) (x : Ahead) (h : Heading) : Type 0 where
  pub class : IsClass ps (procedure_class x.procedure) (classes.procedure h)
  pub spot : x.spot ≡ h.name.spot
  pub kind : x.kind ≡ h.kind

-- what is found ahead of a declaration is that of the procedure which it declares
abbrev pub IsAhead : List Procedure → PDecl → PDecls → Ahead → Type 0
IsAhead ps (tree.forward h) later x = IsOf ps x (announced h later) × (x.has_body ≡ is_some (body_of h.name.name later))
IsAhead ps (tree.procedure h s) later x = IsOf ps x h
IsAhead ps _ later x = Unit {0}

abbrev pub AreAhead : List Procedure → PDecls → List Ahead → Type 0
AreAhead ps tree.no_decls [] = Unit {0}
AreAhead ps (tree.decls d ds) (x ∷ xs) = IsAhead ps d ds x × AreAhead ps ds xs
AreAhead ps _ _ = ⊥

-- ---- names

-- The innermost block declares more, of which this is found, and after which the surroundings are these.
pub record Makes (old new : Resolver) (faults : List rules.Block → Surroundings → List Fault) (cs : List rules.Block → Surroundings → List cells.Cell)
    (uses : List rules.Block → Surroundings → List Known) (after : List rules.Block → Surroundings → Surroundings) : Type 0 where
  pub outer : new.around.outer.items ≡ old.around.outer.items
  pub procedures : new.around.procedures ≡ old.around.procedures
  pub blocks : new.blocks ≡ old.blocks
  pub adds : (blocks : List rules.Block) (a : Surroundings) (spots : List Spot) (first : List Declared) → WalkSettles blocks old a spots first →
      FindingsAdd old.findings (faults blocks a) (cs blocks a) (uses blocks a) new.findings
  pub settles : (blocks : List rules.Block) (a : Surroundings) (spots : List Spot) (first : List Declared) → WalkSettles blocks old a spots first →
      WalkSettles blocks new (after blocks a) spots first

-- the names that the block has before are declared twice
abbrev pub twice_among : List Named → List rules.Block → Surroundings → List Fault
twice_among ns blocks a = broken codes.DeclaredTwice (twice_here blocks a ns)

abbrev pub no_faults : List rules.Block → Surroundings → List Fault
no_faults blocks a = []

abbrev pub no_cells : List rules.Block → Surroundings → List cells.Cell
no_cells blocks a = []

abbrev pub no_uses : List rules.Block → Surroundings → List Known
no_uses blocks a = []

abbrev pub cells_here : cells.Content → List Named → List rules.Block → Surroundings → List cells.Cell
cells_here content ns blocks a = cells_for a.block content ns

-- the places after declarations
abbrev pub declared_so : Sort → classes.Class → List Named → List rules.Block → Surroundings → Surroundings
declared_so sort c ns blocks a = declaring sort c ns a

abbrev pub procedure_so : Heading → List rules.Block → Surroundings → Surroundings
procedure_so h blocks a = record a { known = declare_procedure blocks h a ++ a.known }

abbrev pub nothing_so : List rules.Block → Surroundings → Surroundings
nothing_so blocks a = a

-- the names as they are known after declarations
abbrev pub known_so : (List rules.Block → Surroundings → Surroundings) → List Named → List rules.Block → Surroundings → List Known
known_so after ns blocks a = known_names (after blocks a) ns

-- ---- bodies that stand ahead

abbrev pub IsBody : List Procedure → Option Ahead → Option Heading → Type 0
IsBody ps None None = Unit {0}
IsBody ps (Some x) (Some h) = IsOf ps x h × (x.has_body ≡ true)
IsBody ps _ _ = ⊥

-- the table has the procedures with a body among these declarations
pub record HasBodies (ps : List Procedure) (table : BTreeMap Key Ahead) (later : PDecls) : Type 0 where
  pub bodies : (name : List ℕ) → IsBody ps (sort_named table name) (body_of name later)

-- ---- procedures

-- the declaration is the only part
abbrev pub decl_site : PDecl → PDecls → Surroundings → Site
decl_site d later a = record { part = site.declaration d later; around = a }

-- a name that the walk declares as a procedure
abbrev pub cell_of_procedure : Heading → List rules.Block → Surroundings → List cells.Cell
cell_of_procedure h blocks a = cells_for a.block cells.procedure (h.name ∷ [])

abbrev pub faults_of_decl : PDecl → PDecls → List rules.Block → Surroundings → List Fault
faults_of_decl d later blocks a = faults_at blocks (decl_site d later a)

-- the cell of the result of a typed procedure, in this block
abbrev pub result_in : ℕ → Heading → List cells.Cell
result_in block h = if is_some h.kind then cells_for block cells.result (h.name ∷ []) else []

-- The block of a procedure begins, with its result and its parameters.
pub record Starts (old new : Resolver) (h : Heading) : Type 0 where
  pub outer : new.around.outer.items ≡ old.around.outer.items ++ old.around.innermost ∷ []
  pub procedures : new.around.procedures ≡ old.around.procedures
  pub comes : (blocks : List rules.Block) (a : Surroundings) (spots : List Spot) (first : List Declared) (s : PStmt) → WalkSettles blocks old a spots first →
      number_at blocks h.name.spot ≡ length old.blocks.items → block_numbered blocks (length old.blocks.items) ≡ procedure_block h s spots →
      (new.blocks.items ≡ old.blocks.items ++ stated_block_of (procedure_block h s spots) ∷ []) ×
      (FindingsAdd old.findings [] (result_cells blocks h ++ cells_for (number_at blocks h.name.spot) cells.parameter h.params)
      (known_in_heading h (inside_procedure blocks h a)) new.findings ×
      WalkSettles blocks new (inside_procedure blocks h a) (h.name.spot ∷ spots) (inside_procedure blocks h a).known)

-- a declaration, and what is in it
abbrev pub decl_parts : PDecl → PDecls → List rules.Block → Surroundings → List Declared → List Site
decl_parts d later blocks a first = decl_site d later a ∷ inside_decl blocks d (knowing blocks d later a) first
