use Rattle.std.proofs.Common.{◌≡◌, ◌++◌, drop}
use Rattle.algol_instances.specs.SeenInstance.{named_cells}
use Rattle.b67_dump.specs.Snapshots.{named_lines, texts_of_names}
use Rattle.b67_dump.proofs.blocks.push_names.Given as goal

abbrev pub invariant-names : goal.invariant-names
invariant-names l = l.lines.items ++ named_lines (named_cells l.cells) (texts_of_names (drop l.n-index l.names)) ≡ l.initial.lines.items ++ named_lines (named_cells l.cells) (texts_of_names l.names)
