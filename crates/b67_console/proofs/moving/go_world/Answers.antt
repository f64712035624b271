use Rattle.algol_cells.specs.SeenScope.{scoped}
use Rattle.algol_world.specs.SeenWorld.{world_of}
use Rattle.b67_console.proofs.Onward.{world_goes}
use Rattle.b67_console.proofs.moving.go_world.Goals as goal

pub returns-clause-goes : goal.returns-clause-goes
returns-clause-goes c = λ done more after legal w.
    world_goes (scoped c.args.world.now.scopes) (world_of c.args.world.now) (world_of c.go_on.new.world) c.args.process c.in_ok-_went._went c.args.times done more after
    c.in_ok-_went.ensures.within legal w (c.in_ok-_went.ensures.went w.world w.beside)
