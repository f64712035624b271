use Rattle.std.proofs.Common.{sym, ap, ◌∙◌, Option}
use Rattle.algol_meaning.specs.Value.{Reference}
use Rattle.algol_cells.specs.SeenScope.{scoped}
use Rattle.algol_world.specs.SeenWorld.{world_of, process_of}
use Rattle.algol_world.specs.SeenActed.{acted_choice}
use Rattle.algol_run.specs.Stepping.{told_step, is_going}
use Rattle.algol_run.specs.declared.stepping.Stepped.{Stepped}
use Rattle.b67_race.specs.Entries.{Signal}
use Rattle.algol_seen.specs.Accesses.{signal_after}
use Rattle.algol_seen.specs.Seen.{signal}
use Rattle.algol_seen.proofs.Steps.{is_step, has_ended, chosen_in, stays_so, goes_so}
use Rattle.algol_seen.proofs.seen.step_seen.Goals as goal

pub returns-in-NotAble-clause-seen : goal.returns-in-NotAble-clause-seen
returns-in-NotAble-clause-seen c =
    stays_so (scoped c.args.world.now.scopes) (world_of c.args.world.now) (world_of c.step_in_place.new.world) c.args.process c.in_ok-step_in_place.field-0
    c.in_ok-step_in_place.ensures.stepped c.in-NotAble.is (ap world_of (c.in_ok-step_in_place.ensures.still (ap is_going c.in-NotAble.is)))

pub returns-in-Went-clause-seen : goal.returns-in-Went-clause-seen
returns-in-Went-clause-seen c =
    let after = world_of c.step_in_place.new.world in
    let a = c.in-Went.acted in
    goes_so (scoped c.args.world.now.scopes) (world_of c.args.world.now) c.args.process c.told_of.result (acted_choice a after)
    c.told_of.ensures.letter (c.told_of.ensures.access ∙ c.foreseen.ensures.access)
    (c.told_of.ensures.signal
    ∙ ap (λ (o : Option Reference). signal_after a.action o (signal c.foreseen.result.1)) c.task_of-task.ensures
    ∙ ap (λ (s : Signal). signal_after a.action ((process_of c.args.world.now c.args.process).task) s) c.foreseen.ensures.signal)
    c.told_of.ensures.released c.told_of.ensures.started (told_step c.in_ok-step_in_place.field-0 after) c.in_ok-step_in_place.ensures.stepped
    (ap (λ (s : Stepped). is_step (told_step s after)) c.in-Went.is) (ap (λ (s : Stepped). chosen_in (acted_choice a after) (told_step s after)) c.in-Went.is)
    (c.told_of.ensures.ended ∙ sym (ap (λ (s : Stepped). has_ended (told_step s after)) c.in-Went.is))

pub returns-in-Ended-clause-seen : goal.returns-in-Ended-clause-seen
returns-in-Ended-clause-seen c =
    let after = world_of c.step_in_place.new.world in
    let a = c.in-Ended.acted in
    goes_so (scoped c.args.world.now.scopes) (world_of c.args.world.now) c.args.process c.told_of-in-Ended.result (acted_choice a after)
    c.told_of-in-Ended.ensures.letter (c.told_of-in-Ended.ensures.access ∙ c.foreseen.ensures.access)
    (c.told_of-in-Ended.ensures.signal
    ∙ ap (λ (o : Option Reference). signal_after a.action o (signal c.foreseen.result.1)) c.task_of-task.ensures
    ∙ ap (λ (s : Signal). signal_after a.action ((process_of c.args.world.now c.args.process).task) s) c.foreseen.ensures.signal)
    c.told_of-in-Ended.ensures.released c.told_of-in-Ended.ensures.started (told_step c.in_ok-step_in_place.field-0 after) c.in_ok-step_in_place.ensures.stepped
    (ap (λ (s : Stepped). is_step (told_step s after)) c.in-Ended.is) (ap (λ (s : Stepped). chosen_in (acted_choice a after) (told_step s after)) c.in-Ended.is)
    (c.told_of-in-Ended.ensures.ended ∙ sym (ap (λ (s : Stepped). has_ended (told_step s after)) c.in-Ended.is))
