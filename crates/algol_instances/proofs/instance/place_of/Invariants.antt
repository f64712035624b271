use Rattle.std.proofs.Common.{◌≡◌, drop}
use Rattle.algol_instances.specs.SeenInstance.{cell_place_in, further}
use Rattle.algol_instances.proofs.instance.place_of.Given as goal

abbrev pub invariant-searching : goal.invariant-searching
invariant-searching l =
    (cell_place_in l.cells l.name ≡ further l.place (cell_place_in (drop l.c-index l.cells) l.name)) × (l.place ≡ l.c-index)
