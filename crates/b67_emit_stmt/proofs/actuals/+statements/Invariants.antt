use Rattle.std.proofs.Common.{◌≡◌, ◌++◌, drop}
use Rattle.algol_tree.specs.Image.{stmts}
use Rattle.b67_emitter.specs.Values.{meanings}
use Rattle.b67_emit_stmt.specs.Actuals.{images, cells_in_stmts}
use Rattle.b67_emit_stmt.proofs.actuals.+statements.Given as goal

-- those in the statements that are done
abbrev pub invariant-in_stmts-statements : goal.invariant-in_stmts-statements
invariant-in_stmts-statements l =
    images l.to.items ++ cells_in_stmts (meanings l.names) (stmts (drop l.s-index l.ss)) ≡ images l.fn.to.items ++ cells_in_stmts (meanings l.names) (stmts l.ss)
