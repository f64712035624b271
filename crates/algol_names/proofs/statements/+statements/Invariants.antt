use Rattle.std.proofs.Common.{◌≡◌, ◌++◌, drop, length}
use Rattle.algol_tree.specs.Image.{stmts, decls}
use Rattle.algol_names.specs.Found.{in_decls, in_stmts}
use Rattle.algol_names.proofs.statements.+statements.Given as goal

abbrev pub invariant-add_in_stmts-statements : goal.invariant-add_in_stmts-statements
invariant-add_in_stmts-statements l =
    l.names.items ++ in_stmts (stmts (drop l.s-index l.ss)) (length l.outer) ≡ l.fn.names.items ++ in_stmts (stmts l.fn.ss) (length l.outer)

abbrev pub invariant-add_in_decls-declarations : goal.invariant-add_in_decls-declarations
invariant-add_in_decls-declarations l =
    l.names.items ++ in_decls (decls (drop l.d-index l.ds)) (length l.outer) ≡ l.fn.names.items ++ in_decls (decls l.fn.ds) (length l.outer)
