use Rattle.std.proofs.Common.{rules, ap, ◌∙◌, w64}
use Rattle.std.specs.Int.RustNames.{FitsSigned}
use Rattle.std.proofs.lemmas.Int.{to_z-of_z}
use Rattle.algol_meaning.specs.Arrays.{placed}
use Rattle.algol_meaning.specs.Settle.{sort_at}
use Rattle.algol_cells.specs.SeenScope.{scoped}
use Rattle.algol_cells.specs.SeenCell.{bounds}
use Rattle.algol_instances.proofs.Placing.{moved_not, moved_so}
use Rattle.algol_instances.proofs.array.moved_place.Goals as goal

pub returns-in-None : goal.returns-in-None
returns-in-None c =
    let b = bounds c.args.b.now in
    let fits = c.ranges.subscript in
    let low : FitsSigned w64 c.args.b.now.low = search rules in
    let e = simp to_z-of_z at c.placed.ensures in
    e ∙ ap (placed b) (moved_not (sort_at (scoped c.args.scopes.now) c.args.n.now) b c.args.dimension c.args.subscript c.in-None.ensures)

pub returns-in-Some : goal.returns-in-Some
returns-in-Some c =
    let b = bounds c.args.b.now in
    let fits = c.ranges.subscript in
    let low : FitsSigned w64 c.in-Some.low = search rules in
    let e = simp to_z-of_z at c.placed-in-Some.ensures in
    e ∙ ap (placed b) (moved_so (sort_at (scoped c.args.scopes.now) c.args.n.now) b c.args.dimension c.args.subscript c.in-Some.low c.in-Some.ensures)
