use Rattle.std.proofs.Common.{Some, ◌-◌, length, take, is_some, rules}
use Rattle.b67_store.specs.Store.{words_or}
use Rattle.b67_store.proofs.Lists.{stored}
use Rattle.b67_store.proofs.stack_table.StackTable.pop.Goals as goal

pub returns-clause-stacks : goal.returns-clause-stacks
returns-clause-stacks c =
    stored (λ o. Some (take (length (words_or o) - 1) (words_or o))) c.self.inside.stacks.items c.args.self.now c.from.result c.args.stack c.in-Some.slot.now c.pop_word.new.slot (is_some c.pop_word.result) c.self.view_is (search rules) (search rules) (search rules) c.pop_word.ensures.stack
