use Rattle.std.proofs.Common.{◌≡◌, drop}
use Rattle.algol_tree.specs.Image.{stmts}
use Rattle.b67_templates.specs.Labels.{label_in}
use Rattle.b67_emit_text.proofs.entries.label_in.Given as goal

-- it stands before none of the statements that are done
abbrev pub invariant-statements : goal.invariant-statements
invariant-statements l = label_in (stmts (drop l.s-index l.ss)) l.name.name ≡ label_in (stmts l.ss) l.name.name
