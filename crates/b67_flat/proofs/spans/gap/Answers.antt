use Rattle.std.proofs.Common.{arith, rules}
use Rattle.b67_flat.proofs.Walks.{gap_by, begins_by}
use Rattle.b67_flat.proofs.spans.gap.Goals as goal

pub overflow_sub-result : goal.overflow_sub-result
overflow_sub-result c =
    omega (arith, c.end_before.ensures, begins_by c.args.spans.now.items c.args.at c.index.result.now c.requires.ascending (search rules) c.index.ensures)

pub returns : goal.returns
returns c =
    omega (arith, c.end_before.ensures, gap_by c.args.spans.now.items c.args.at c.index.result.now (search rules) c.index.ensures)
