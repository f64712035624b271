use Rattle.std.proofs.Common.{◌+◌, ◌-◌, ◌/◌, ◌∙◌, ap, sym, arith}
use Rattle.b67_flat.specs.Spans.{spans_below}
use Rattle.b67_flat.proofs.Fits.{below_is}
use Rattle.b67_flat.proofs.Walks.{lower_half, upper_half, half_below}
use Rattle.b67_flat.proofs.spans.Spans.below.Goals as goal

pub halving-preserved-then-index-place : goal.halving-preserved-then-index-place
halving-preserved-then-index-place c =
    let m = half_below c.halving.low c.halving.high c.halving-test.true in (
      omega (arith, m),
      c.halving.invariant.1,
      λ k d p. lower_half c.self.inside.spans.items c.args.place (c.halving.low + (c.halving.high - c.halving.low) / 2) k c.index.result.now d c.self.invariant.0 (omega (arith, m, c.halving.invariant.1, c.self.inside.spans.ok)) c.index.ensures c.if-index-place.true p,
      c.halving.invariant.3,
    )

pub halving-preserved : goal.halving-preserved
halving-preserved c =
    let m = half_below c.halving.low c.halving.high c.halving-test.true in (
      omega arith,
      omega (arith, m, c.halving.invariant.1),
      c.halving.invariant.2,
      λ k d p q. upper_half c.self.inside.spans.items c.args.place (c.halving.low + (c.halving.high - c.halving.low) / 2) k c.index.result.now d c.self.invariant.0 (omega (arith, m, c.halving.invariant.1, c.self.inside.spans.ok)) c.index.ensures c.if-index-place.false p (omega (arith, q, c.self.inside.spans.ok)),
    )

pub returns : goal.returns
returns c =
    let same = c.halving-test.false in
    sym (below_is c.args.place c.self.inside.spans.items c.halving.low (omega (arith, c.halving.invariant.0, c.halving.invariant.1, c.self.inside.spans.ok)) (λ k d p. c.halving.invariant.2 k d p) (λ d p. c.halving.invariant.3 c.halving.low d (omega (arith, c.halving-test.false)) (omega (arith, p, c.self.inside.spans.ok))))
    ∙ ap (λ s. spans_below c.args.place s) c.self.view_is
