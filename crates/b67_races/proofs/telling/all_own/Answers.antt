use Rattle.std.proofs.Common.{map, ap, ◌∙◌, []}
use Rattle.b67_race.specs.declared.walk.Race as found
use Rattle.b67_races.specs.Told.{race_of}
use Rattle.b67_races.proofs.Owning.{own_more}
use Rattle.b67_races.proofs.telling.all_own.Goals as goal

pub owning-preserved : goal.owning-preserved
owning-preserved c =
    let none : found.Race = record { first = 0; second = 0; cell = record { instance = 0; element = 0; name = record { ref_ptr = (0, 0); now = [] } } } in
    ap (map race_of) c.in_ok-push.ensures.items
    ∙ own_more c.args.found.now c.owning.race-index none c.owning.all.items c.in_ok-one.one c.owning-test.true c.in_ok-one.ensures c.owning.invariant
