use Rattle.std.proofs.Common.{◌≡◌, ◌+◌, ◌-◌, ◌^◌, ◌≤◌, drop}
use Rattle.algol_meaning.specs.Arrays.{size_of_cells}
use Rattle.algol_instances.specs.SeenArray.{capped}
use Rattle.algol_instances.specs.SeenInstance.{named_cells}
use Rattle.algol_instances.proofs.size.size_of_cells.Given as goal

abbrev pub invariant-adding : goal.invariant-adding
invariant-adding l = record {
  sum : capped (l.size + size_of_cells (named_cells (drop l.c-index l.cells))) ≡ capped (size_of_cells (named_cells l.cells));
  fits : l.size ≤ 2 ^ 64 - 1;
}
