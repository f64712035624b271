use Rattle.std.proofs.Common.{take}
use Rattle.b67_templates.specs.Code.{AreParts}
use Rattle.b67_emit_stmt.proofs.line.format_of.Given as goal

abbrev pub invariant-texts : goal.invariant-texts
invariant-texts l = AreParts (take l.text-index l.texts) l.phrases.items
