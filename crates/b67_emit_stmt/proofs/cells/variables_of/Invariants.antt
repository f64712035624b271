use Rattle.std.proofs.Common.{◌≡◌, ◌+◌, length, drop}
use Rattle.algol_tree.specs.Image.{decls}
use Rattle.b67_templates.specs.Cells.{variables}
use Rattle.b67_emit_stmt.proofs.cells.variables_of.Given as goal

abbrev pub invariant-decls : goal.invariant-decls
invariant-decls l = l.many + length (variables (decls (drop l.d-index l.decls))) ≡ length (variables (decls l.decls))
