use Rattle.std.proofs.Common.{arith, rules}
use Rattle.b67_flat.proofs.Fits.{end_within}
use Rattle.b67_flat.proofs.Walks.{end_by}
use Rattle.b67_flat.proofs.spans.end_before.Goals as goal

pub overflow_add-result : goal.overflow_add-result
overflow_add-result c =
    omega (arith, c.from.ensures, c.requires.within, end_within 0 c.args.at c.args.spans.now.items c.requires.ascending, end_by c.args.spans.now.items c.args.at c.index-span.result.now (search rules) (search rules) c.index-span.ensures)

pub returns : goal.returns
returns c =
    omega (arith, c.from.ensures, end_by c.args.spans.now.items c.args.at c.index-span.result.now (search rules) (search rules) c.index-span.ensures)
