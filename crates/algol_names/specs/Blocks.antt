-- The blocks of the code, whose a BEGIN is there, and the block of a BEGIN.
use Rattle.std.specs.Prelude.{◌++◌, Bool, false, List, [], map, None}
use Rattle.algol_tree.specs.Sites.{has_decls}
use Rattle.algol_tree.specs.declared.token.Spot.{Spot}
use Rattle.algol_tree.specs.Plain as tree
use Rattle.algol_tree.specs.Plain.{PBody}
use Rattle.algol_tree.specs.Blocks as plain
use Rattle.algol_cells.specs.SeenScope.{block}
use Rattle.algol_cells.specs.declared.table.Blocks.{Blocks}
use Rattle.algol_names.specs.declared.blocks.Begin.{Begin}
use Rattle.algol_names.specs.declared.blocks.Begin.TheVariants as begins

-- the blocks of a program, in the order of the text
abbrev pub blocks_in : Blocks → List plain.Block
blocks_in blocks = map block blocks.list.items

abbrev pub begin : Begin → plain.Begin
begin begins.OfStatement = plain.of_statement
begin begins.OfProcedure = plain.of_procedure

abbrev pub block_of_begin : PBody → List Spot → plain.Block
block_of_begin (tree.body spot ds ss) outer =
    record { spot = spot; outer = outer; name = []; parameters = []; result = None; decls = ds; stmts = ss }

-- a BEGIN is a block of its own
abbrev pub is_block : PBody → plain.Begin → Bool
is_block (tree.body spot ds ss) plain.of_statement = has_decls ds
is_block (tree.body spot ds ss) plain.of_procedure = false

-- the blocks of a BEGIN, its own among them
abbrev pub begin_blocks : plain.Begin → PBody → List Spot → List plain.Block
begin_blocks begin b outer = plain.begin_block begin b outer ++ plain.blocks_in_body b (plain.begin_outer begin b outer)
