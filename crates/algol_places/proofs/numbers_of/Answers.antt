use Rattle.algol_places.proofs.Numbering.{numbered_before}
use Rattle.algol_places.proofs.numbers_of.Goals as goal

pub loop-number-preserved : goal.loop-number-preserved
loop-number-preserved c =
    numbered_before c.loop-number.numbers c.insert.new.self c.args.spots.now c.loop-number.number _ c.loop-number-test.true c.loop-number.auto.number
    c.loop-number.invariant c.in_ok-insert.ensures.updates
