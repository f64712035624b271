use Rattle.std.proofs.Common.{◌≡◌, drop}
use Rattle.algol_meaning.specs.Run.{some_able}
use Rattle.algol_cells.specs.SeenScope.{scoped}
use Rattle.algol_world.specs.SeenWorld.{processes}
use Rattle.algol_run.proofs.ending.some_able.Given as goal

abbrev pub invariant-asking : goal.invariant-asking
invariant-asking l =
    some_able (processes (scoped l.world.scopes) (drop l.q-index l.world.processes)) ≡ some_able (processes (scoped l.world.scopes) l.world.processes)
