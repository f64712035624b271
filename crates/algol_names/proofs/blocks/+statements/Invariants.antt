use Rattle.std.proofs.Common.{◌≡◌, ◌++◌, map, drop}
use Rattle.algol_tree.specs.Blocks as plain
use Rattle.algol_tree.specs.Image.{stmts, decls}
use Rattle.algol_cells.specs.SeenScope.{block}
use Rattle.algol_names.proofs.blocks.+statements.Given as goal

abbrev pub invariant-add_in_stmts-statements : goal.invariant-add_in_stmts-statements
invariant-add_in_stmts-statements l =
    map block l.blocks.items ++ plain.blocks_in_stmts (stmts (drop l.s-index l.ss)) l.outer
    ≡ map block l.fn.blocks.items ++ plain.blocks_in_stmts (stmts l.fn.ss) l.outer

abbrev pub invariant-add_in_decls-declarations : goal.invariant-add_in_decls-declarations
invariant-add_in_decls-declarations l =
    map block l.blocks.items ++ plain.blocks_in_decls (decls (drop l.d-index l.ds)) l.outer
    ≡ map block l.fn.blocks.items ++ plain.blocks_in_decls (decls l.fn.ds) l.outer
