use Rattle.std.proofs.Common.{◌-◌, arith}
use Rattle.b67_flat.proofs.Walks.{chunk_done}
use Rattle.b67_flat.proofs.spans.fit_in.Goals as goal

pub returns-after-fitting-clause-none : goal.returns-after-fitting-clause-none
returns-after-fitting-clause-none c = λ k p q.
    omega (arith, c.requires.some, chunk_done c.args.spans.now.items c.args.first c.fitting.at 64 (c.args.count - 1) k (λ j a b. omega (arith, c.fitting.invariant.2 j a b)) (λ h. absurd (omega (arith, h, c.fitting-test.false, c.len.ensures, c.args.spans.now.ok))) p q)
