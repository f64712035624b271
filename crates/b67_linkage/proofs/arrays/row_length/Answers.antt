use Rattle.std.proofs.Common.{arith, sym, ◌∙◌}
use Rattle.b67_store.specs.Store.{row_words}
use Rattle.b67_list.proofs.Lists.{get_within, no_longer}
use Rattle.b67_linkage.proofs.arrays.row_length.Goals as goal

pub returns-in_default : goal.returns-in_default
returns-in_default g c =
    omega (arith, no_longer (row_words (g.C.Core.rows c.args.core.now) c.args.row) c.counting.at (sym c.read_row.ensures ∙ c.in_default.is), c.counting.invariant)

pub counting-preserved : goal.counting-preserved
counting-preserved g c =
    omega (arith, get_within (row_words (g.C.Core.rows c.args.core.now) c.args.row) c.counting.at c.in-Some.field-0 (sym c.read_row.ensures ∙ c.in-Some.is))

pub returns : goal.returns
returns g c = omega (arith, c.requires c.args.row, c.counting.invariant, c.counting-test.false)
