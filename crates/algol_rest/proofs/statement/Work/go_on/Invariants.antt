use Rattle.std.proofs.Common.{◌≡◌, []}
use Rattle.algol_meaning.specs.Statements.{settle_items}
use Rattle.algol_cells.specs.SeenScope.{scoped}
use Rattle.algol_rest.specs.SeenStatement.{ahead, weigh}
use Rattle.algol_rest.proofs.statement.Work.go_on.Given as goal

abbrev pub invariant-going : goal.invariant-going
invariant-going l =
    (l.self.frames ≡ []) × (settle_items (scoped l.scopes) (ahead l.self) ≡ settle_items (scoped l.scopes) (ahead l.initial.self))

abbrev pub decreases-going : goal.decreases-going
decreases-going l = weigh l.self.todo
