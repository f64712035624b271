use Rattle.b67_parcel.specs.Parcels.{Stretch}
use Rattle.b67_plant.proofs.Landing.{at_least, is_run, lands_run}
use Rattle.b67_plant.proofs.Plant.put.Goals as goal

pub put_run-requires-clause-run : goal.put_run-requires-clause-run
put_run-requires-clause-run g c =
    let s : Stretch = c.args.parcel.now in
    is_run s.room g.N.Named.code s c.count-count.result (at_least c.room.result s.room c.if-room-eq0.false c.room.ensures) c.start-start.ensures.kept.performed c.count-count.ensures
    c.if-count-eq0.false

pub returns-clause-lands : goal.returns-clause-lands
returns-clause-lands g c =
    let s : Stretch = c.args.parcel.now in
    lands_run g.N.Named.budget s c.args.self.now c.put_run.new.self c.requires.going (at_least c.room.result s.room c.if-room-eq0.false c.room.ensures) c.requires.starts
    c.put_run.ensures.puts
