use Rattle.std.proofs.Common.{Some, ◌∷◌, [], ◌++◌, is_ok, rules}
use Rattle.b67_store.specs.Store.{words_or}
use Rattle.b67_store.proofs.Lists.{stored}
use Rattle.b67_store.proofs.stack_table.StackTable.push.Goals as goal

pub returns-clause-stacks : goal.returns-clause-stacks
returns-clause-stacks c =
    stored (λ o. Some (words_or o ++ c.args.word ∷ [])) c.self.inside.stacks.items c.args.self.now c.from.result c.args.stack c.in-Some.slot.now c.push_word.new.slot (is_ok c.push_word.result) c.self.view_is (search rules) (search rules) (search rules) c.push_word.ensures.stack
