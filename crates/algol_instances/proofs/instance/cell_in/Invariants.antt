use Rattle.std.proofs.Common.{◌≡◌, drop}
use Rattle.algol_meaning.specs.World.{cell_in}
use Rattle.algol_instances.specs.SeenInstance.{named_cells}
use Rattle.algol_instances.proofs.instance.cell_in.Given as goal

abbrev pub invariant-searching : goal.invariant-searching
invariant-searching l = cell_in (named_cells (drop l.c-index l.cells)) l.name ≡ cell_in (named_cells l.cells) l.name
