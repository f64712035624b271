use Rattle.std.proofs.Common.{length}
use Rattle.algol_names.proofs.Adding.{pairs_step}
use Rattle.algol_names.proofs.expressions.add_in_pairs.Goals as goal

pub pairs-preserved : goal.pairs-preserved
pairs-preserved c =
    pairs_step c.args.bounds.now c.pairs.pair-index c.pair-item.result (length c.args.outer.now) c.pairs.names.items c.add_in_expr.new.names.items _
    c.pairs-test.true c.pair-item.is c.in_ok-add_in_expr.ensures c.pairs.invariant
