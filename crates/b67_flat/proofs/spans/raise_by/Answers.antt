use Rattle.std.proofs.Common.{arith}
use Rattle.b67_flat.proofs.Fits.{gap_past}
use Rattle.b67_flat.proofs.spans.raise_by.Goals as goal

pub returns-else-at-len-clause-raised : goal.returns-else-at-len-clause-raised
returns-else-at-len-clause-raised c =
    omega (arith, gap_past 0 c.args.at c.args.spans.now.items (omega (arith, c.if-at-len.false, c.len.ensures, c.args.spans.now.ok)))
