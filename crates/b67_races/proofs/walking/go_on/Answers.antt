use Rattle.std.proofs.Common.{rules, ◌≡◌, ap, false}
use Rattle.algol_cells.specs.SeenScope.{scoped}
use Rattle.algol_world.specs.SeenWorld.{world_of}
use Rattle.b67_races.proofs.Schedules.{one_stops}
use Rattle.b67_races.proofs.walking.go_on.Goals as goal

pub returns-then-not-branch-clause-goes : goal.returns-then-not-branch-clause-goes
returns-then-not-branch-clause-goes c = λ w given left s.
    let stays : c.in_ok-go.field-0 ≡ false = search rules in
    one_stops (scoped c.args.world.now.scopes) (scoped c.going.world.scopes) w given (world_of c.going.world) (world_of c.go.new.world) c.going.walk c.go.new.walk
    c.args.process c.going.left left c.in_ok-go.field-0 (ap scoped c.going.invariant.3) c.going-test.true (c.going.invariant.0 w given left s)
    (λ rest t. c.in_ok-go.ensures.goes w given rest t) stays
