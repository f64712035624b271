use Rattle.std.proofs.Common.{is_ok, rules}
use Rattle.b67_store.specs.Store.{row_with}
use Rattle.b67_store.proofs.Lists.{stored}
use Rattle.b67_store.proofs.Tables.{written}
use Rattle.b67_store.proofs.row_table.RowTable.write.Goals as goal

pub invariant_of-self-2 : goal.invariant_of-self-2
invariant_of-self-2 c =
    written _ _ _ c.args.row c.args.at c.args.word c.in-Some.slot.now _ (is_ok c.write_row_word.result) c.self.invariant (search rules) (search rules) c.write_row_word.ensures.row

pub returns-clause-rows : goal.returns-clause-rows
returns-clause-rows c =
    stored (λ o. row_with o c.args.at c.args.word) c.self.inside.rows.items c.args.self.now c.args.row c.args.row c.in-Some.slot.now c.write_row_word.new.slot (is_ok c.write_row_word.result) c.self.view_is (search rules) (search rules) (search rules) c.write_row_word.ensures.row
