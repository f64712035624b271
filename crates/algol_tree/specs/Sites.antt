-- A tree as the list of its parts in the order of the text, each with what is around it. Every rule of names, types, counts and
-- limits looks at one part with what is around it, or at a list of these.
use Rattle.std.specs.Prelude.{Bool, true, false, List, [], ◌∷◌, ◌++◌, Option, Some, None}
use Rattle.algol_tree.specs.declared.tree.Named.{Named}
use Rattle.algol_tree.specs.Plain as tree
use Rattle.algol_tree.specs.Plain.{PExpr, PExprs, PPair, PStmt, PStmts, PDecl, PDecls, PBody, PProgram, name_alone}
use Rattle.algol_tree.specs.Classes as class
use Rattle.algol_tree.specs.Classes.{Class, Formal}
use Rattle.algol_tree.specs.Sorts.{Declared}
use Rattle.algol_tree.specs.Blocks.{Block, Begin, of_statement, of_procedure}
use Rattle.algol_tree.specs.Surroundings.{Surroundings, outermost, formals_at, knowing, knowing_all, inside, inside_procedure}

pub data Part : Type 0 where
  -- a name by itself as an actual that no value is wanted of
  name : Named → Part
  -- an expression, also inside another
  expression : PExpr → Part
  -- an actual, and its parameter where there is one
  actual : PExpr → Option Formal → Part
  -- an upper bound of an array
  bound : PExpr → Part
  -- a statement, and whether it stands in the list of statements of its block
  statement : PStmt → Bool → Part
  -- a declaration, and the declarations after it
  declaration : PDecl → PDecls → Part

pub record Site : Type 0 where
  pub part : Part
  pub around : Surroundings

abbrev pub here : PExpr → Surroundings → Site
here e a = record { part = expression e; around = a }

-- ---- expressions

abbrev pub first_formal : List Formal → Option Formal
first_formal [] = None
first_formal (f ∷ fs) = Some f

abbrev pub other_formals : List Formal → List Formal
other_formals [] = []
other_formals (f ∷ fs) = fs

abbrev pub is_of_value : Class → Bool
is_of_value (class.simple kind) = true
is_of_value _ = false

-- a value is wanted of an actual for a simple parameter
abbrev pub wants_value : Option Formal → Bool
wants_value None = false
wants_value (Some f) = is_of_value f.class

abbrev pub name_part : Named → Bool → Part
name_part n true = expression (tree.variable (tree.subscripted n tree.none))
name_part n false = name n

abbrev pub actual_part_by : Option Named → PExpr → Option Formal → Part
actual_part_by (Some n) e f = name_part n (wants_value f)
actual_part_by None e f = expression e

abbrev pub actual_part : PExpr → Option Formal → Part
actual_part e f = actual_part_by (name_alone e) e f

-- the sites inside an expression, without its own
abbrev mutual
  pub inside_expr : PExpr → Surroundings → List Site
  inside_expr (tree.variable (tree.subscripted n es)) a = inside_list es a
  inside_expr (tree.call (tree.called n es)) a = inside_actuals es (formals_at a n) a
  inside_expr (tree.paren e spot) a = here e a ∷ inside_expr e a
  inside_expr (tree.plus e spot) a = here e a ∷ inside_expr e a
  inside_expr (tree.neg e spot) a = here e a ∷ inside_expr e a
  inside_expr (tree.not e spot) a = here e a ∷ inside_expr e a
  inside_expr (tree.two op x y) a = (here x a ∷ inside_expr x a) ++ (here y a ∷ inside_expr y a)
  inside_expr (tree.if c x y spot) a = (here c a ∷ inside_expr c a) ++ (here x a ∷ inside_expr x a) ++ (here y a ∷ inside_expr y a)
  inside_expr (tree.number z spot) a = []
  inside_expr (tree.truth b spot) a = []
  inside_expr (tree.tested test es spot) a = []

  pub inside_list : PExprs → Surroundings → List Site
  inside_list tree.none a = []
  inside_list (tree.more e es) a = (here e a ∷ inside_expr e a) ++ inside_list es a

  pub inside_actuals : PExprs → List Formal → Surroundings → List Site
  inside_actuals tree.none fs a = []
  inside_actuals (tree.more e es) fs a =
      record { part = actual e (first_formal fs); around = a } ∷ record { part = actual_part e (first_formal fs); around = a } ∷
      (inside_expr e a ++ inside_actuals es (other_formals fs) a)

abbrev pub sites : PExpr → Surroundings → List Site
sites e a = here e a ∷ inside_expr e a

abbrev pub sites_in_pairs : List PPair → Surroundings → List Site
sites_in_pairs [] a = []
sites_in_pairs (p ∷ ps) a = record { part = bound p.high; around = a } ∷ (sites p.high a ++ sites_in_pairs ps a)

-- ---- statements and declarations

abbrev pub here_stmt : PStmt → Bool → Surroundings → Site
here_stmt s listed a = record { part = statement s listed; around = a }

abbrev pub has_decls : PDecls → Bool
has_decls tree.no_decls = false
has_decls (tree.decls d ds) = true

module _ (blocks : List Block) where
  -- The sites inside a statement, without its own. A bound stands in its block but sees what is known at the block's begin: `first`.
  abbrev mutual
    pub inside_stmt : PStmt → Begin → Bool → Surroundings → List Site
    inside_stmt (tree.label n s) begin listed a = here_stmt s listed a ∷ inside_stmt s of_statement listed a
    inside_stmt (tree.assign (tree.subscripted n es) e) begin listed a = inside_list es a ++ sites e a
    inside_stmt (tree.call_of (tree.called n es)) begin listed a = inside_actuals es (formals_at a n) a
    inside_stmt (tree.block b) begin listed a = sites_in_body b (inside blocks begin b a)
    inside_stmt (tree.if_then c x) begin listed a = sites c a ++ (here_stmt x false a ∷ inside_stmt x of_statement false a)
    inside_stmt (tree.if_else c x y) begin listed a =
        sites c a ++ (here_stmt x false a ∷ inside_stmt x of_statement false a) ++
        (here_stmt y false a ∷ inside_stmt y of_statement false a)
    inside_stmt (tree.while c b) begin listed a = sites c a ++ (here_stmt b false a ∷ inside_stmt b of_statement false a)
    inside_stmt (tree.until b c) begin listed a = (here_stmt b false a ∷ inside_stmt b of_statement false a) ++ sites c a
    inside_stmt (tree.for v x s l b) begin listed a =
        sites x a ++ sites s a ++ sites l a ++ (here_stmt b false a ∷ inside_stmt b of_statement false a)
    inside_stmt (tree.thru e b) begin listed a = sites e a ++ (here_stmt b false a ∷ inside_stmt b of_statement false a)
    inside_stmt (tree.case e ss) begin listed a = sites e a ++ sites_in_stmts ss false a
    inside_stmt (tree.process (tree.called n es) task) begin listed a = inside_actuals es (formals_at a n) a
    inside_stmt (tree.write n spot phrases es) begin listed a = inside_list es a
    inside_stmt tree.empty begin listed a = []
    inside_stmt (tree.go_to n) begin listed a = []
    inside_stmt (tree.event act e) begin listed a = []

    pub sites_in_stmts : PStmts → Bool → Surroundings → List Site
    sites_in_stmts tree.no_stmts listed a = []
    sites_in_stmts (tree.stmts s ss) listed a = here_stmt s listed a ∷ (inside_stmt s of_statement listed a ++ sites_in_stmts ss listed a)

    -- the place is after the declaration
    pub inside_decl : PDecl → Surroundings → List Declared → List Site
    inside_decl (tree.arrays kind ns pairs) a first = sites_in_pairs pairs (record a { known = first })
    inside_decl (tree.procedure h s) a first =
        here_stmt s false (inside_procedure blocks h a) ∷ inside_stmt s of_procedure false (inside_procedure blocks h a)
    inside_decl (tree.simple kind ns) a first = []
    inside_decl (tree.files ns) a first = []
    inside_decl (tree.events ns) a first = []
    inside_decl (tree.tasks ns) a first = []
    inside_decl (tree.labels ns) a first = []
    inside_decl (tree.forward h) a first = []

    pub sites_in_decls : PDecls → Surroundings → List Declared → List Site
    sites_in_decls tree.no_decls a first = []
    sites_in_decls (tree.decls d ds) a first =
        record { part = declaration d ds; around = a } ∷
        (inside_decl d (knowing blocks d ds a) first ++ sites_in_decls ds (knowing blocks d ds a) first)

    pub sites_in_body : PBody → Surroundings → List Site
    sites_in_body (tree.body spot ds ss) a = sites_in_decls ds a a.known ++ sites_in_stmts ss (has_decls ds) (knowing_all blocks ds a)

abbrev pub sites_by : PProgram → List Block → List Site
sites_by (tree.program b) blocks = sites_in_body blocks b outermost
