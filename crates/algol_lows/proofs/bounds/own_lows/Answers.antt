use Rattle.std.proofs.Common.{rules}
use Rattle.algol_lows.proofs.Paired.{all_paired, pairs_step}
use Rattle.algol_lows.proofs.bounds.own_lows.Goals as goal

pub pairs-preserved : goal.pairs-preserved
pairs-preserved c =
    pairs_step c.args.pairs.now c.pairs.pair-index c.pair-item.result c.pairs.list.items c.push.new.self.items _ c.pairs-test.true c.pair-item.is (search (rules)) c.pairs.invariant

pub returns : goal.returns
returns c = all_paired c.args.pairs.now c.pairs.pair-index c.pairs.list.items c.of.result c.pairs-test.false c.pairs.invariant c.of.ensures
