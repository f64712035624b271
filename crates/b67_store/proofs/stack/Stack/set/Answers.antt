use Rattle.std.proofs.Common.{◌∙◌, ap, set, rules}
use Rattle.std.proofs.Math.Seq.{take-set-lt}
use Rattle.b67_store.proofs.stack.Stack.set.Goals as goal

pub returns-then-at-self-clause-words : goal.returns-then-at-self-clause-words
returns-then-at-self-clause-words c =
    take-set-lt c.self.inside.used c.self.inside.words.items c.from-at.result c.args.word (search rules)
    ∙ ap (λ ws. set ws c.from-at.result c.args.word) c.self.view_is
    ∙ ap (λ at. set c.args.self.now at c.args.word) (search rules)
