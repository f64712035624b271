use Rattle.std.proofs.Common.{◌≡◌, ◌++◌, drop}
use Rattle.algol_tree.specs.Image.{decls}
use Rattle.algol_instances.specs.SeenInstance.{named_cells}
use Rattle.b67_dump.specs.Snapshots.{named_lines, declared_in}
use Rattle.b67_dump.proofs.blocks.push_declarations.Given as goal

abbrev pub invariant-declarations : goal.invariant-declarations
invariant-declarations l =
    l.lines.items ++ named_lines (named_cells l.cells) (declared_in (decls (drop l.d-index l.ds))) ≡ l.initial.lines.items ++ named_lines (named_cells l.cells) (declared_in (decls l.ds))
