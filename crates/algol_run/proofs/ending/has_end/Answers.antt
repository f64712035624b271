use Rattle.std.proofs.Common.{◌&&◌, not, sym, ap, ◌∙◌}
use Rattle.algol_meaning.specs.Run.{some_able}
use Rattle.algol_world.specs.SeenWorld.{world_of}
use Rattle.algol_run.proofs.Steps.{ends_able, ends_waiting}
use Rattle.algol_run.proofs.ending.has_end.Goals as goal

-- a process of it is able
pub returns-then-is_able : goal.returns-then-is_able
returns-then-is_able c =
    ends_able (world_of c.args.world.now) c.args.process (sym c.is_able.ensures ∙ c.if-is_able.true) (sym c.is_finished.ensures ∙ c.if-is_finished.false)

-- a process lives, and it has ended where none is able
pub returns-then-some_lives : goal.returns-then-some_lives
returns-then-some_lives c =
    let w = world_of c.args.world.now in
    ap not c.some_able.ensures
    ∙ ap (λ lives. lives && not (some_able w.processes)) (sym (sym c.some_lives.ensures ∙ c.if-some_lives.true))
    ∙ ends_waiting w (sym c.is_finished.ensures ∙ c.if-is_finished.false)

-- no process lives
pub returns-else-some_lives : goal.returns-else-some_lives
returns-else-some_lives c =
    let w = world_of c.args.world.now in
    c.if-some_lives.false
    ∙ ap (λ lives. lives && not (some_able w.processes)) (sym (sym c.some_lives.ensures ∙ c.if-some_lives.false))
    ∙ ends_waiting w (sym c.is_finished.ensures ∙ c.if-is_finished.false)
