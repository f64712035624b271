use Rattle.std.proofs.Common.{◌≡◌, ◌++◌, drop}
use Rattle.algol_tree.specs.Image.{decls}
use Rattle.b67_templates.specs.Cells.{procedures}
use Rattle.b67_emit_stmt.specs.Bodies.{procedure_numbers_of}
use Rattle.b67_emit_stmt.proofs.draft.StmtEmitter.numbers.Given as goal

abbrev pub invariant-decls : goal.invariant-decls
invariant-decls g l = l.numbers.items ++ procedure_numbers_of l.self.known.now (procedures (decls (drop l.d-index l.ds))) ≡ procedure_numbers_of l.self.known.now (procedures (decls l.ds))
