use Rattle.std.proofs.Common.{◌≡◌, drop}
use Rattle.algol_instances.specs.SeenInstance.{named_cells}
use Rattle.b67_dump.specs.Snapshots.{cell_named}
use Rattle.b67_dump.proofs.blocks.cell_named.Given as goal

abbrev pub invariant-searching : goal.invariant-searching
invariant-searching l = cell_named (named_cells (drop l.c-index l.cells)) l.name ≡ cell_named (named_cells l.cells) l.name
