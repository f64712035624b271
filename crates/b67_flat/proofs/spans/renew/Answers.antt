use Rattle.std.proofs.Common.{arith}
use Rattle.b67_flat.proofs.Bounds.{one_raised, all_raised}
use Rattle.b67_flat.proofs.spans.renew.Goals as goal

pub raising-init : goal.raising-init
raising-init c = (
  λ k h. one_raised c.args.spans.now.items c.args.widest.now c.raise_by.new.widest c.args.at c.args.from k c.requires.kept c.raise_by.ensures.others c.raise_by.ensures.raised h,
  c.raise_by.ensures.size,
)

pub returns-clause-widest : goal.returns-clause-widest
returns-clause-widest c =
    all_raised c.args.spans.now.items c.raising.widest c.raising.next c.raising.invariant.0 (omega (arith, c.raising-test.false, c.len.ensures, c.args.spans.now.ok))
