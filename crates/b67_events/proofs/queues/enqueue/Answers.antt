use Rattle.std.proofs.Common.{◌≡◌, ◌+◌, ap, ◌∙◌, arith, rules}
use Rattle.std.specs.Prelude.{insert}
use Rattle.b67_events.specs.Kept.{rank_of, below}
use Rattle.b67_events.proofs.Order.{below_within, insert_stand}
use Rattle.b67_events.proofs.queues.enqueue.Goals as goal

pub insert-requires : goal.insert-requires
insert-requires c =
    let within = below_within (c.rank.result + 1) c.args.waiting.now.items in
    omega (arith, within, c.below-index.ensures, c.args.waiting.now.ok)

pub returns-clause-items : goal.returns-clause-items
returns-clause-items c =
    let ws = c.args.waiting.now.items in
    let put : c.insert.new.self.items ≡ insert ws c.below-index.result c.args.one = search rules in
    let place : c.below-index.result ≡ below (rank_of c.args.one + 1) ws = c.below-index.ensures ∙ ap (λ r. below (r + 1) ws) c.rank.ensures in
    put ∙ ap (λ i. insert ws i c.args.one) place ∙ insert_stand c.args.one ws
