-- What is around a place in the text: its block and the names that are known there.
use Rattle.std.specs.Prelude.{ℕ, ◌+◌, if◌then◌else◌, List, [], ◌∷◌, ◌++◌, length, Option, Some, None}
use Rattle.algol_tree.specs.declared.tree.Named.{Named}
use Rattle.algol_tree.specs.declared.tree.Heading.{Heading}
use Rattle.algol_tree.specs.Plain as tree
use Rattle.algol_tree.specs.Plain.{PDecl, PDecls, PBody}
use Rattle.algol_tree.specs.Classes as class
use Rattle.algol_tree.specs.Classes.{Class, Formal}
use Rattle.algol_tree.specs.Sorts as sort
use Rattle.algol_tree.specs.Sorts.{same_name, Sort, Declared, look_up, declare, declared_parameters, formals_of}
use Rattle.algol_tree.specs.Blocks.{Block, Begin, of_statement, of_procedure, number_at}

-- the number of the block, how many blocks are around that, and the names known there, the innermost first
pub record Surroundings : Type 0 where
  pub block : ℕ
  pub depth : ℕ
  pub known : List Declared

-- the outer block, at its begin
abbrev pub outermost : Surroundings
outermost = record { block = 0; depth = 0; known = [] }

abbrev pub declared_as : Surroundings → Named → Option Declared
declared_as a n = look_up a.known n.name

abbrev pub class_of_declared : Option Declared → Class
class_of_declared None = class.unknown
class_of_declared (Some d) = d.class

-- what the name stands for there
abbrev pub class_of : Surroundings → Named → Class
class_of a n = class_of_declared (declared_as a n)

abbrev pub formals_of_class : Class → List Formal
formals_of_class (class.procedure h) = formals_of h
formals_of_class _ = []

-- the parameters of the procedure of that name
abbrev pub formals_at : Surroundings → Named → List Formal
formals_at a n = formals_of_class (class_of a n)

-- the heading with the body, for a procedure of this name, among the declarations after its FORWARD
abbrev pub body_of : List ℕ → PDecls → Option Heading
body_of name tree.no_decls = None
body_of name (tree.decls (tree.procedure h s) ds) = if same_name h.name.name name then Some h else body_of name ds
body_of name (tree.decls _ ds) = body_of name ds

abbrev pub heading_or : Heading → Option Heading → Heading
heading_or h None = h
heading_or h (Some g) = g

-- the heading that counts for a procedure which FORWARD announced with h
abbrev pub announced : Heading → PDecls → Heading
announced h later = heading_or h (body_of h.name.name later)

module _ (blocks : List Block) where
  abbrev pub declare_procedure : Heading → Surroundings → List Declared
  declare_procedure h a = declare a.block a.depth (sort.procedure (number_at blocks h.name.spot)) (class.procedure h) (h.name ∷ [])

  -- what a declaration makes known; `later` are the declarations after it
  abbrev pub made_known : PDecl → PDecls → Surroundings → List Declared
  made_known (tree.simple kind ns) later a = declare a.block a.depth sort.variable (class.simple kind) ns
  made_known (tree.files ns) later a = declare a.block a.depth sort.file class.file ns
  made_known (tree.events ns) later a = declare a.block a.depth sort.event class.event ns
  made_known (tree.tasks ns) later a = declare a.block a.depth sort.event class.task ns
  made_known (tree.labels ns) later a = declare a.block a.depth sort.label class.label ns
  made_known (tree.arrays kind ns pairs) later a = declare a.block a.depth sort.array (class.array kind (length pairs)) ns
  made_known (tree.forward h) later a = declare_procedure (announced h later) a
  made_known (tree.procedure h s) later a = declare_procedure h a

  -- the place after a declaration
  abbrev pub knowing : PDecl → PDecls → Surroundings → Surroundings
  knowing d later a = record a { known = made_known d later a ++ a.known }

  -- the place after all declarations
  abbrev pub knowing_all : PDecls → Surroundings → Surroundings
  knowing_all tree.no_decls a = a
  knowing_all (tree.decls d ds) a = knowing_all ds (knowing d ds a)

  -- inside a BEGIN, which is a block where it has declarations
  abbrev pub inside_begin : PBody → Surroundings → Surroundings
  inside_begin (tree.body spot tree.no_decls ss) a = a
  inside_begin (tree.body spot (tree.decls d ds) ss) a = record { block = number_at blocks spot; depth = a.depth + 1; known = a.known }

  abbrev pub inside : Begin → PBody → Surroundings → Surroundings
  inside of_statement b a = inside_begin b a
  inside of_procedure b a = a

  abbrev pub inside_procedure : Heading → Surroundings → Surroundings
  inside_procedure h a =
      record {
        block = number_at blocks h.name.spot;
        depth = a.depth + 1;
        known = declared_parameters (number_at blocks h.name.spot) (a.depth + 1) h ++ a.known;
      }
