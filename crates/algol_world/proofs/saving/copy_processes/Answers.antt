use Rattle.std.proofs.Common.{ap, ◌∙◌, map}
use Rattle.algol_world.specs.SeenWorld.{process}
use Rattle.algol_world.proofs.Copies.{one_more}
use Rattle.algol_world.proofs.saving.copy_processes.Goals as goal

pub loop-q-preserved : goal.loop-q-preserved
loop-q-preserved c = λ sc.
    ap (map (process sc)) c.in_ok-push.ensures.items
    ∙ one_more (process sc) c.loop-q.copies.items c.args.processes.now c.loop-q.q-index c.in_ok-copy_process.field-0 c.q-item.result
    c.loop-q-test.true (c.loop-q.invariant sc) (c.in_ok-copy_process.ensures sc ∙ ap (process sc) c.q-item.is)
