use Rattle.std.proofs.Common.{ap, sym, ◌∙◌}
use Rattle.algol_meaning.specs.Events.{caused_by_end}
use Rattle.algol_world.specs.SeenWorld as views
use Rattle.algol_world.specs.SeenWorld.{world_of}
use Rattle.algol_world.proofs.world.World.cause_task.Goals as goal

pub returns-in-Some-clause-released : goal.returns-in-Some-clause-released
returns-in-Some-clause-released c = λ p.
    c.let_go.ensures.released ∙ ap (λ t. (caused_by_end (world_of c.args.self.now) p (views.task t)).processes) (sym c.in-Some.is)

pub returns-in-Some-clause-after : goal.returns-in-Some-clause-after
returns-in-Some-clause-after c = λ p.
    c.let_go.ensures.after ∙ ap (λ t. (caused_by_end (world_of c.args.self.now) p (views.task t)).world) (sym c.in-Some.is)
