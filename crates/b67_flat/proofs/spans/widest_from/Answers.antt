use Rattle.std.proofs.Common.{arith}
use Rattle.b67_flat.proofs.Walks.{chunk_done}
use Rattle.b67_flat.proofs.spans.widest_from.Goals as goal

pub returns-after-widening : goal.returns-after-widening
returns-after-widening c = λ k p q.
    chunk_done c.args.spans.now.items c.args.first c.widening.at 64 c.widening.widest k c.widening.invariant.2 (λ h. absurd (omega (arith, h, c.widening-test.false, c.len.ensures, c.args.spans.now.ok))) p q
