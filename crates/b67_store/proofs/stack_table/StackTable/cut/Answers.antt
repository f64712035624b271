use Rattle.std.proofs.Common.{Some, take, is_ok, rules}
use Rattle.b67_store.specs.Store.{words_or}
use Rattle.b67_store.proofs.Lists.{stored}
use Rattle.b67_store.proofs.stack_table.StackTable.cut.Goals as goal

pub returns-clause-stacks : goal.returns-clause-stacks
returns-clause-stacks c =
    stored (λ o. Some (take c.args.length (words_or o))) c.self.inside.stacks.items c.args.self.now c.from.result c.args.stack c.in-Some.slot.now c.cut_words.new.slot (is_ok c.cut_words.result) c.self.view_is (search rules) (search rules) (search rules) c.cut_words.ensures.stack
