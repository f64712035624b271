use Rattle.std.proofs.Common.{◌∙◌, sym}
use Rattle.b67_descriptor.proofs.Rows.{of_ok}
use Rattle.b67_descriptor.proofs.Filled.{filled_first, filled_more}
use Rattle.b67_descriptor.proofs.arrays.make_rows.Goals as goal

pub filling-init : goal.filling-init
filling-init g c =
    record {
      filled = filled_first (g.C.Core.rows c.args.core.now) (g.C.Core.rows c.open.new.core) c.in_ok-mother.mother c.args.rows c.args.columns
          c.in_ok-mother.ensures.number.0 c.in_ok-mother.ensures.rows;
      stacks = c.open.ensures.stacks;
    }

pub filling-preserved : goal.filling-preserved
filling-preserved g c =
    record {
      filled = filled_more (g.C.Core.rows c.args.core.now) (g.C.Core.rows c.open.new.core) (g.C.Core.rows c.filling.core) (g.C.Core.rows c.add_row.new.core)
          c.in_ok-mother.mother c.args.rows c.args.columns c.filling.at c.filling.invariant.filled c.filling-test.true c.requires.columns.1
          (of_ok c.add_row.result (sym c.is_err.ensures.value ∙ c.if-is_err.false) c.add_row.ensures.low)
          (of_ok c.add_row.result (sym c.is_err.ensures.value ∙ c.if-is_err.false) c.add_row.ensures.added);
      stacks = c.add_row.ensures.stacks ∙ c.filling.invariant.stacks;
    }
