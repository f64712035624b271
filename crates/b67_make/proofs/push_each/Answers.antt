use Rattle.std.proofs.Common.{◌+◌, refl}
use Rattle.b67_make.specs.Made.{line}
use Rattle.b67_make.proofs.Each.{each_more}
use Rattle.b67_make.proofs.push_each.Goals as goal

pub numbers-preserved : goal.numbers-preserved
numbers-preserved c =
    each_more (line c.args.start.now c.args.end.now) _ _ _ c.args.first c.numbers.before (c.numbers.before + 1) refl c.numbers.invariant c.in_ok-push_line.ensures
