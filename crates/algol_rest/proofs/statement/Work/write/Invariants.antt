use Rattle.std.proofs.Common.{◌≡◌, [], map, length}
use Rattle.algol_meaning.specs.Statements.{settle_line}
use Rattle.algol_meaning.specs.SeenTree.{exprs}
use Rattle.algol_cells.specs.SeenValue.{value}
use Rattle.algol_cells.specs.SeenScope.{scoped}
use Rattle.algol_rest.specs.SeenStatement.{ahead}
use Rattle.algol_rest.proofs.statement.Work.write.Given as goal

abbrev pub invariant-writing : goal.invariant-writing
invariant-writing l =
    (l.self.frames ≡ [])
    × (settle_line (scoped l.scopes) (exprs l.es) l.phrases (ahead l.self) (map value l.vs)
    ≡ settle_line (scoped l.scopes) (exprs l.initial.es) l.phrases (ahead l.initial.self) (map value l.initial.vs))

abbrev pub decreases-writing : goal.decreases-writing
decreases-writing l = length l.es
