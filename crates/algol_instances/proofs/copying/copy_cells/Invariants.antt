use Rattle.std.proofs.Common.{◌≡◌, take}
use Rattle.algol_instances.proofs.copying.copy_cells.Given as goal

abbrev pub invariant-loop-named : goal.invariant-loop-named
invariant-loop-named l = l.copies.items ≡ take l.named-index l.cells
