use Rattle.std.proofs.Common.{◌-◌, arith}
use Rattle.b67_flat.proofs.Walks.{lower_half}
use Rattle.b67_flat.proofs.spans.surely_below.Goals as goal

pub returns-then-index-place-clause-below : goal.returns-then-index-place-clause-below
returns-then-index-place-clause-below c = λ k d p.
    lower_half c.args.spans.now.items c.args.place (c.len-count.result - 2) k c.index.result.now d c.requires (omega (arith, c.len-count.ensures, c.if-count-ge2.true, c.args.spans.now.ok)) c.index.ensures c.if-index-place.true (omega (arith, p, c.if-count-ge2.true))
