use Rattle.std.proofs.Common.{◌∙◌, arith}
use Rattle.b67_descriptor.proofs.Several.{one_less}
use Rattle.b67_descriptor.proofs.arrays.close_arrays.Goals as goal

pub closing-preserved : goal.closing-preserved
closing-preserved g c =
    record {
      within = omega (arith, c.closing.invariant.within);
      have = λ before h. one_less before c.args.arrays.now c.closing.left c.array_at-array.result (g.C.Core.rows c.closing.core) (g.C.Core.rows c.close_array.new.core) c.closing-test.true c.array_at-array.ensures
          c.close_array.ensures.closed (c.closing.invariant.have before h);
      stacks = c.close_array.ensures.stacks ∙ c.closing.invariant.stacks;
    }
