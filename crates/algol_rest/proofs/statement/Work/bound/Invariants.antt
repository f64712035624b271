use Rattle.std.proofs.Common.{◌≡◌, [], map, length}
use Rattle.algol_meaning.specs.Statements.{settle_bounds}
use Rattle.algol_meaning.specs.SeenTree.{pairs}
use Rattle.algol_cells.specs.SeenValue.{value}
use Rattle.algol_cells.specs.SeenScope.{scoped}
use Rattle.algol_rest.specs.SeenStatement.{ahead}
use Rattle.algol_rest.proofs.statement.Work.bound.Given as goal

abbrev pub invariant-bounding : goal.invariant-bounding
invariant-bounding l =
    (l.self.frames ≡ [])
    × (settle_bounds (scoped l.scopes) (pairs l.ps) l.kind l.ns (pairs l.all) (ahead l.self) (map value l.vs)
    ≡ settle_bounds (scoped l.scopes) (pairs l.initial.ps) l.kind l.ns (pairs l.all) (ahead l.initial.self) (map value l.initial.vs))

abbrev pub decreases-bounding : goal.decreases-bounding
decreases-bounding l = length l.ps
