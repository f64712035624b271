use Rattle.std.proofs.Common.{◌≤◌, length, arith}
use Rattle.b67_events.proofs.Order.{below_past, below_within}
use Rattle.b67_events.proofs.queues.below_from.Goals as goal

pub returns : goal.returns
returns c =
    let ws = c.args.waiting.now.items in
    let past : length ws ≤ c.passing.index = omega (arith, c.passing-test.false, c.len-index-end.ensures, c.args.waiting.now.ok.0) in
    let none = below_past c.args.rank c.passing.index ws past in
    let within = below_within c.args.rank ws in
    omega (arith, past, none, within, c.passing.invariant, c.len.ensures, c.args.waiting.now.ok.0)
