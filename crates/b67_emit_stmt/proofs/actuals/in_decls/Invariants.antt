use Rattle.std.proofs.Common.{◌≡◌, ◌++◌, drop}
use Rattle.algol_tree.specs.Image.{decls}
use Rattle.b67_emitter.specs.Values.{meanings}
use Rattle.b67_emit_stmt.specs.Actuals.{images, cells_in_decls}
use Rattle.b67_emit_stmt.proofs.actuals.in_decls.Given as goal

-- those in the declarations that are done
abbrev pub invariant-decls : goal.invariant-decls
invariant-decls l =
    images l.to.items ++ cells_in_decls (meanings l.names) (decls (drop l.d-index l.ds)) ≡ images l.fn.to.items ++ cells_in_decls (meanings l.names) (decls l.ds)
