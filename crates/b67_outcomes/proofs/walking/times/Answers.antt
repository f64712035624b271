use Rattle.std.proofs.Common.{◌-◌, drop, get_or, arith}
use Rattle.b67_outcomes.proofs.Repeating.{times_first, times_more}
use Rattle.b67_outcomes.proofs.walking.times.Goals as goal

pub same-init : goal.same-init
same-init c = (omega arith, omega (arith, c.requires.some), times_first c.args.history.now c.args.left c.requires.some c.requires.within)

pub same-preserved : goal.same-preserved
same-preserved c =
    let i = c.same.invariant in
    let h = c.args.history.now in (
      omega (arith, i.0),
      omega arith,
      times_more h (drop c.args.left h) c.args.left c.same.count (get_or h (c.args.left - 1) 0) (omega arith) c.requires.within i.2 c.if-history-left.true,
    )
