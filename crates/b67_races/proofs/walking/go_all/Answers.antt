use Rattle.std.proofs.Common.{rules, ◌≡◌, ap, false}
use Rattle.algol_cells.specs.SeenScope.{scoped}
use Rattle.algol_world.specs.SeenWorld.{world_of}
use Rattle.b67_schedule.specs.declared.Run.{Run}
use Rattle.b67_races.proofs.Schedules.{run_stops}
use Rattle.b67_races.proofs.walking.go_all.Goals as goal

pub returns-then-not-branch-clause-goes : goal.returns-then-not-branch-clause-goes
returns-then-not-branch-clause-goes c = λ w given s.
    let none : Run = record { process = 0; times = 0 } in
    let stays : c.in_ok-go_on.field-0 ≡ false = search rules in
    run_stops (scoped c.args.world.now.scopes) (scoped c.runs.world.scopes) w given (world_of c.runs.world) (world_of c.go_on.new.world) c.runs.walk c.go_on.new.walk
    c.args.schedule.now.runs c.runs-run-items.result.now c.runs.run-index none c.in_ok-go_on.field-0 c.runs-run-items.ensures.value c.runs-test.true (ap scoped c.runs.invariant.2)
    (c.runs.invariant.0 w given s) (λ rest t. c.in_ok-go_on.ensures.goes w given rest t) stays
