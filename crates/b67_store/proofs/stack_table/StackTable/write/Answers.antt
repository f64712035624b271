use Rattle.std.proofs.Common.{Some, set, is_ok, rules}
use Rattle.b67_store.specs.Store.{words_or}
use Rattle.b67_store.proofs.Lists.{stored}
use Rattle.b67_store.proofs.stack_table.StackTable.write.Goals as goal

pub returns-clause-stacks : goal.returns-clause-stacks
returns-clause-stacks c =
    stored (λ o. Some (set (words_or o) c.args.at.at c.args.word)) c.self.inside.stacks.items c.args.self.now c.from.result c.args.at.stack c.in-Some.slot.now c.write_word.new.slot (is_ok c.write_word.result) c.self.view_is (search rules) (search rules) (search rules) c.write_word.ensures.stack
