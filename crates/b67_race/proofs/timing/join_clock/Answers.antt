use Rattle.b67_race.proofs.Timed.{time_joined}
use Rattle.b67_race.proofs.timing.join_clock.Goals as goal

pub returns : goal.returns
returns c =
    time_joined c.args.clocks.now.items c.reach.new.clocks.items c.args.process c.index_mut.result.now c.join.new.self c.args.own.now c.in_ok-reach.ensures.long c.in_ok-reach.ensures.same
    c.index_mut.ensures.value c.in_ok-join.ensures
