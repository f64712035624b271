use Rattle.std.proofs.Common.{◌+◌, refl}
use Rattle.b67_make.specs.Made.{adder}
use Rattle.b67_make.proofs.Each.{each_more}
use Rattle.b67_make.proofs.push_adders.Goals as goal

pub numbers-preserved : goal.numbers-preserved
numbers-preserved c =
    each_more adder _ _ _ c.args.first c.numbers.before (c.numbers.before + 1) refl c.numbers.invariant c.in_ok-push_adder.ensures
