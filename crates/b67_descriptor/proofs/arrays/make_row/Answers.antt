use Rattle.std.proofs.Common.{subst, sym, true}
use Rattle.b67_control.specs.declared.Descriptor.{Descriptor}
use Rattle.b67_store.specs.Store.{Rows, zero_row}
use Rattle.b67_descriptor.specs.Arrays.{HasMore, HasArray}
use Rattle.b67_descriptor.proofs.Rows.{has_mother}
use Rattle.b67_descriptor.proofs.arrays.make_row.Goals as goal

pub returns-clause-more : goal.returns-clause-more
returns-clause-more g c =
    let before = g.C.Core.rows c.args.core.now in
    let new = g.C.Core.rows c.open.new.core in
    subst (λ (d : Descriptor). HasArray before new d) (sym c.descriptor.ensures.value)
    (subst (λ (rows : Rows). HasMore before rows c.in_ok-row.row 0 0) (sym c.in_ok-row.ensures.rows)
    (has_mother before c.in_ok-row.row (zero_row c.args.count true) c.in_ok-row.ensures.number.0))
