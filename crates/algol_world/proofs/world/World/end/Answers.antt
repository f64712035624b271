use Rattle.std.proofs.Common.{ℕ, List, [], ◌∷◌, None, ap, ◌∙◌}
use Rattle.b67_deeds.specs.declared.Letter.TheVariants as actions
use Rattle.algol_meaning.specs.World.{World}
use Rattle.algol_meaning.specs.Events.{caused_by_end}
use Rattle.algol_meaning.specs.Instances.{leave}
use Rattle.algol_world.specs.Leaving.{ending, ended_after}
use Rattle.algol_world.specs.SeenWorld as views
use Rattle.algol_world.specs.SeenWorld.{world_of}
use Rattle.algol_world.proofs.world.World.end.Goals as goal

pub returns-clause-ended : goal.returns-clause-ended
returns-clause-ended c =
    let w = world_of c.args.self.now in
    let left = world_of c.leave.new.self in
    let n = c.args.number in
    let ps = c.cause_task-released.result in
    let t = views.task c.task_of-task.result in
    ap (λ (v : World). record { action = actions.End; world = v; released = ps; started = None }) c.end_process.ensures.went
    ∙ ap (λ (v : World). record { action = actions.End; world = ending v n; released = ps; started = None }) (c.cause_task-released.ensures.after n)
    ∙ ap (λ (qs : List ℕ). record { action = actions.End; world = ending ((caused_by_end left n t).world) n; released = qs; started = None }) (c.cause_task-released.ensures.released n)
    ∙ ap (λ (v : World). ended_after (caused_by_end v n t) n) c.leave.ensures.left
    ∙ ap (λ t. ended_after (caused_by_end (leave w (c.args.instance ∷ [])) n t) n) c.task_of-task.ensures
