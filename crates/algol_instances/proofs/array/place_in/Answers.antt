use Rattle.std.proofs.lemmas.Int.{to_z-of_z}
use Rattle.algol_cells.specs.SeenCell.{bounds}
use Rattle.algol_instances.proofs.Numbering.{map_get_some}
use Rattle.algol_instances.proofs.array.place_in.Goals as goal

pub returns-in-Some : goal.returns-in-Some
returns-in-Some c =
    let get = map_get_some bounds c.args.array.now.bounds _ c.in-Some.b.now c.in-Some.ensures in
    let fits = c.ranges.subscript in
    rw (← get) (simp to_z-of_z at c.moved_place.ensures)
