use Rattle.std.proofs.Common.{◌≡◌, drop}
use Rattle.algol_tree.specs.Spelling.{value_after, value_of}
use Rattle.b67_emit_stmt.proofs.line.width_of.Given as goal

abbrev pub invariant-digits : goal.invariant-digits
invariant-digits l = value_after l.width (drop l.digit-index l.digits) ≡ value_of l.digits
