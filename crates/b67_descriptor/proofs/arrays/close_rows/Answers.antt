use Rattle.std.proofs.Common.{◌∙◌, subst, ℕ, arith}
use Rattle.b67_descriptor.specs.Arrays.{HasMore}
use Rattle.b67_descriptor.proofs.Rows.{has_one_less, has_no_more, closed_mother}
use Rattle.b67_descriptor.proofs.arrays.close_rows.Goals as goal

pub closing-preserved : goal.closing-preserved
closing-preserved g c =
    record {
      more = λ before h. has_one_less before (g.C.Core.rows c.closing.core) (g.C.Core.rows c.close_child.new.core) c.args.mother c.closing.at c.args.to
          (c.closing.invariant.more before h) c.closing-test.true c.close_child.ensures.closed c.close_child.ensures.kept;
      stacks = c.close_child.ensures.stacks ∙ c.closing.invariant.stacks;
    }

pub returns-clause-closed : goal.returns-clause-closed
returns-clause-closed g c before h =
    let rows = g.C.Core.rows c.closing.core in
    let new = g.C.Core.rows c.close_row.new.self in
    let closed = closed_mother rows new c.args.mother _ c.close_row.ensures.found c.close_row.ensures.rows in
    has_no_more before rows new c.args.mother c.closing.at
    (subst (λ (n : ℕ). HasMore before rows c.args.mother c.closing.at n) (omega (arith, c.closing-test.false, c.closing.auto.at-end)) (c.closing.invariant.more before h))
    closed.0 closed.1
