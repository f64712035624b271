use Rattle.std.proofs.Common.{ap, sym}
use Rattle.algol_cells.specs.SeenScope.{scoped}
use Rattle.algol_world.specs.SeenWorld.{world_of}
use Rattle.b67_schedule.specs.Schedules.{entries}
use Rattle.b67_console.proofs.Together.{told_alike, may_alike, has_room, stands_on}
use Rattle.b67_console.proofs.moment.MomentWalker.go.Goals as goal

pub go_through-requires-clause-sound : goal.go_through-requires-clause-sound
go_through-requires-clause-sound g c = c.requires.stands.sound

pub go_through-requires-clause-between : goal.go_through-requires-clause-between
go_through-requires-clause-between g c = c.requires.stands.between

pub go_through-requires-clause-within : goal.go_through-requires-clause-within
go_through-requires-clause-within g c = c.requires.stands.within

pub go_through-requires-clause-goes : goal.go_through-requires-clause-goes
go_through-requires-clause-goes g c = (c.requires.goes.0, c.requires.goes.1.through)

pub go_through-requires-clause-room : goal.go_through-requires-clause-room
go_through-requires-clause-room g c =
    let old = c.args.self.now in
    has_room (scoped old.world.scopes) old.machine.code old.done.room c.args.process c.args.times (entries old.done.runs) c.requires.goes.0 c.requires.goes.1

pub returns-clause-stands : goal.returns-clause-stands
returns-clause-stands g c =
    let old = c.args.self.now in
    let new = c.go_world.new.world in
    stands_on (scoped old.world.scopes) (scoped new.scopes) (world_of old.world) (world_of new) old.machine c.go_through.new.machine old.done c.go_through.new.done old.spent c.go_through.new.spent
    c.args.process c.args.times (ap scoped c.in_ok-go_world.ensures.same) c.requires.stands
    (c.in_ok-go_world.ensures.goes (entries old.done.runs) c.requires.goes.0 c.requires.goes.1.world c.requires.goes.1.legal c.requires.stands.world) c.in_ok-go_through.ensures.done
    c.in_ok-go_through.ensures.between c.in_ok-go_through.ensures.within

pub returns-clause-goes : goal.returns-clause-goes
returns-clause-goes g c = λ h x.
    let old = c.args.self.now in
    may_alike (scoped old.world.scopes) (scoped c.go_world.new.world.scopes) old.machine.code c.go_through.new.machine.code old.done.room c.go_through.new.done.room
    (ap scoped c.in_ok-go_world.ensures.same) c.in_ok-go_through.ensures.between.same c.in_ok-go_through.ensures.room h x

pub returns-clause-kept : goal.returns-clause-kept
returns-clause-kept g c = λ h k t x.
    let old = c.args.self.now in
    told_alike (scoped old.world.scopes) (scoped c.go_world.new.world.scopes) old.machine.code c.go_through.new.machine.code (ap scoped c.in_ok-go_world.ensures.same)
    c.in_ok-go_through.ensures.between.same h k t x

pub returns-clause-back : goal.returns-clause-back
returns-clause-back g c = λ h k t x.
    let old = c.args.self.now in
    told_alike (scoped c.go_world.new.world.scopes) (scoped old.world.scopes) c.go_through.new.machine.code old.machine.code (sym (ap scoped c.in_ok-go_world.ensures.same))
    (sym c.in_ok-go_through.ensures.between.same) h k t x
