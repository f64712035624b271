use Rattle.std.proofs.Common.{rules}
use Rattle.std.specs.Prelude.{IfOk}
use Rattle.algol_cells.specs.SeenScope.{scoped}
use Rattle.algol_world.specs.SeenWorld.{world_of}
use Rattle.algol_lean.specs.Shed.{StepsShedding}
use Rattle.algol_lean.proofs.Steps.{all_steps_beside}
use Rattle.algol_lean.proofs.stepping.step_lean.Goals as goal

pub returns-clause-beside : goal.returns-clause-beside
returns-clause-beside c =
    let sc = scoped c.args.world.now.scopes in
    let before = world_of c.args.world.now in
    let after = world_of c.shed_left.new.world in
    let sheds : IfOk c.step_in_place-stepped.result (StepsShedding (scoped c.args.world.now.scopes) (world_of c.args.world.now) c.args.process (world_of c.shed_left.new.world)) = search rules in
    all_steps_beside sc before after c.args.process c.step_in_place-stepped.result sheds
