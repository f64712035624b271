use Rattle.std.proofs.Common.{◌∙◌, arith}
use Rattle.b67_display.proofs.Named.{shown_there}
use Rattle.b67_display.proofs.showing.show.Goals as goal

pub returns : goal.returns
returns c =
    c.set-2.ensures.value
    ∙ shown_there c.above.display c.args.display.now c.args.top c.args.level c.above.at (omega (arith, c.above-test.false)) c.requires.level c.above.invariant.size
    c.above.invariant.front c.above.invariant.ends
