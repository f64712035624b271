-- The blocks of a program, numbered from 0 in the order of the text by their BEGIN or, for a procedure, its name.
use Rattle.std.specs.Prelude.{ℕ, ◌+◌, ◌==◌, ◌&&◌, if◌then◌else◌, Bool, List, [], ◌∷◌, ◌++◌, map, Option, Some, None, slice_get}
use Rattle.algol_tree.specs.declared.token.Spot.{Spot}
use Rattle.algol_tree.specs.declared.tree.Kind.{Kind}
use Rattle.algol_tree.specs.declared.tree.Heading.{Heading}
use Rattle.algol_tree.specs.Plain as tree
use Rattle.algol_tree.specs.Plain.{PStmt, PStmts, PDecl, PDecls, PBody, PProgram}
use Rattle.algol_tree.specs.Sorts.{Parameter, parameters_of}

-- A block: where it stands, and where the blocks around it stand, the innermost first; where it is a procedure, its name, parameters and
-- the kind of its result; its declarations and statements.
pub record Block : Type 0 where
  pub spot : Spot
  pub outer : List Spot
  pub name : List ℕ
  pub parameters : List Parameter
  pub result : Option Kind
  pub decls : PDecls
  pub stmts : PStmts

abbrev pub same_spot : Spot → Spot → Bool
same_spot a b = (a.column == b.column) && (a.line == b.line)

-- a compound has no declarations
abbrev pub own_block : PBody → List Spot → List Block
own_block (tree.body spot tree.no_decls ss) outer = []
own_block (tree.body spot (tree.decls d ds) ss) outer =
    record { spot = spot; outer = outer; name = []; parameters = []; result = None; decls = tree.decls d ds; stmts = ss } ∷ []

-- the blocks around what stands in it
abbrev pub own_outer : PBody → List Spot → List Spot
own_outer (tree.body spot tree.no_decls ss) outer = outer
own_outer (tree.body spot (tree.decls d ds) ss) outer = spot ∷ outer

abbrev pub decls_of : PStmt → PDecls
decls_of (tree.block (tree.body spot ds ss)) = ds
decls_of _ = tree.no_decls

abbrev pub stmts_of : PStmt → PStmts
stmts_of (tree.block (tree.body spot ds ss)) = ss
stmts_of s = tree.stmts s tree.no_stmts

abbrev pub procedure_block : Heading → PStmt → List Spot → Block
procedure_block h s outer =
    record {
      spot = h.name.spot;
      outer = outer;
      name = h.name.name;
      parameters = parameters_of h;
      result = h.kind;
      decls = decls_of s;
      stmts = stmts_of s;
    }

-- Whose a BEGIN is. Where the body of a procedure is a BEGIN, its declarations belong to the procedure's own block.
pub data Begin : Type 0 where
  of_statement : Begin
  of_procedure : Begin

abbrev pub begin_block : Begin → PBody → List Spot → List Block
begin_block of_statement b outer = own_block b outer
begin_block of_procedure b outer = []

abbrev pub begin_outer : Begin → PBody → List Spot → List Spot
begin_outer of_statement b outer = own_outer b outer
begin_outer of_procedure b outer = outer

abbrev mutual
  pub blocks_of : PStmt → Begin → List Spot → List Block
  blocks_of (tree.label n s) begin outer = blocks_of s of_statement outer
  blocks_of (tree.block b) begin outer = begin_block begin b outer ++ blocks_in_body b (begin_outer begin b outer)
  blocks_of (tree.if_then c a) begin outer = blocks_of a of_statement outer
  blocks_of (tree.if_else c a b) begin outer = blocks_of a of_statement outer ++ blocks_of b of_statement outer
  blocks_of (tree.while c b) begin outer = blocks_of b of_statement outer
  blocks_of (tree.until b c) begin outer = blocks_of b of_statement outer
  blocks_of (tree.for v a s l b) begin outer = blocks_of b of_statement outer
  blocks_of (tree.thru n b) begin outer = blocks_of b of_statement outer
  blocks_of (tree.case e ss) begin outer = blocks_in_stmts ss outer
  blocks_of tree.empty begin outer = []
  blocks_of (tree.assign v e) begin outer = []
  blocks_of (tree.call_of c) begin outer = []
  blocks_of (tree.go_to n) begin outer = []
  blocks_of (tree.process c task) begin outer = []
  blocks_of (tree.event act e) begin outer = []
  blocks_of (tree.write n spot phrases es) begin outer = []

  pub blocks_in_stmts : PStmts → List Spot → List Block
  blocks_in_stmts tree.no_stmts outer = []
  blocks_in_stmts (tree.stmts s ss) outer = blocks_of s of_statement outer ++ blocks_in_stmts ss outer

  pub blocks_in_decl : PDecl → List Spot → List Block
  blocks_in_decl (tree.procedure h s) outer = procedure_block h s outer ∷ blocks_of s of_procedure (h.name.spot ∷ outer)
  blocks_in_decl (tree.simple kind ns) outer = []
  blocks_in_decl (tree.files ns) outer = []
  blocks_in_decl (tree.events ns) outer = []
  blocks_in_decl (tree.tasks ns) outer = []
  blocks_in_decl (tree.labels ns) outer = []
  blocks_in_decl (tree.arrays kind ns pairs) outer = []
  blocks_in_decl (tree.forward h) outer = []

  pub blocks_in_decls : PDecls → List Spot → List Block
  blocks_in_decls tree.no_decls outer = []
  blocks_in_decls (tree.decls d ds) outer = blocks_in_decl d outer ++ blocks_in_decls ds outer

  pub blocks_in_body : PBody → List Spot → List Block
  blocks_in_body (tree.body spot ds ss) outer = blocks_in_decls ds outer ++ blocks_in_stmts ss outer

abbrev pub spot_of : PBody → Spot
spot_of (tree.body spot ds ss) = spot

-- the outer block is always a block
abbrev pub outer_block : PBody → Block
outer_block (tree.body spot ds ss) = record { spot = spot; outer = []; name = []; parameters = []; result = None; decls = ds; stmts = ss }

unfoldable pub blocks_of_program : PProgram → List Block
blocks_of_program (tree.program b) = outer_block b ∷ blocks_in_body b (spot_of b ∷ [])

abbrev pub number_at : List Block → Spot → ℕ
number_at [] spot = 0
number_at (b ∷ bs) spot = if same_spot b.spot spot then 0 else number_at bs spot + 1

-- An accepted tree has a block of each number that it names.
abbrev pub block_numbered : List Block → ℕ → Block
block_numbered bs i = or_none (slice_get bs i)
  where
    or_none : Option Block → Block
    or_none (Some b) = b
    or_none None =
        record {
          spot = record { line = 0; column = 0 };
          outer = [];
          name = [];
          parameters = [];
          result = None;
          decls = tree.no_decls;
          stmts = tree.no_stmts;
        }

-- the numbers of the blocks around block i, the innermost first
abbrev pub around : List Block → ℕ → List ℕ
around bs i = map (number_at bs) ((block_numbered bs i).outer)
