use Rattle.std.proofs.Common.{arith, ap, length}
use Rattle.b67_flat.proofs.Fits.{ascend_removed, end_removed}
use Rattle.b67_flat.proofs.Bounds.{kept_taken}
use Rattle.b67_flat.proofs.spans.Spans.remove.Goals as goal

pub renew-requires-clause-ascending : goal.renew-requires-clause-ascending
renew-requires-clause-ascending c = rw c.remove-span.ensures.items (ascend_removed 0 c.args.at c.self.inside.spans.items c.self.invariant.0)

pub renew-requires-clause-within : goal.renew-requires-clause-within
renew-requires-clause-within c = rw c.remove-span.ensures.items (omega (arith, end_removed 0 c.args.at c.self.inside.spans.items c.self.invariant.0, c.self.invariant.1))

pub renew-requires-clause-kept : goal.renew-requires-clause-kept
renew-requires-clause-kept c = λ k d h.
    rw c.remove-span.ensures.items (kept_taken c.self.inside.spans.items c.self.inside.widest c.args.at k c.self.invariant.2 (omega (arith, c.requires, ap length c.self.view_is)) d h)

pub invariant_of-self : goal.invariant_of-self
invariant_of-self c = (
  rw c.remove-span.ensures.items (ascend_removed 0 c.args.at c.self.inside.spans.items c.self.invariant.0),
  rw c.remove-span.ensures.items (omega (arith, end_removed 0 c.args.at c.self.inside.spans.items c.self.invariant.0, c.self.invariant.1)),
  c.renew.ensures.widest,
  omega (arith, c.renew.ensures.size, c.remove-span.ensures.len, c.self.invariant.3),
  omega (arith, c.renew.ensures.size, c.self.invariant.4),
)
