use Rattle.std.proofs.Common.{◌≡◌, drop}
use Rattle.algol_meaning.specs.Critical.{some_depends}
use Rattle.algol_cells.specs.SeenScope.{scoped}
use Rattle.algol_world.specs.SeenWorld.{processes}
use Rattle.algol_world.proofs.world.World.some_depends.Given as goal

abbrev pub invariant-asking : goal.invariant-asking
invariant-asking l =
    let sc = scoped l.self.scopes in
    some_depends (processes sc (drop l.q-index l.self.processes)) l.instance ≡ some_depends (processes sc l.self.processes) l.instance
