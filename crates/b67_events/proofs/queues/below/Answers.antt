use Rattle.std.proofs.Common.{◌≡◌, ltb, sym, subst, ap, ◌∙◌, rules}
use Rattle.std.specs.List.Sorted.{IsNonDecreasingBy}
use Rattle.std.proofs.lemmas.List.Sorted.{IsPartitionPoint-from_clause, IsPartitionedBy-ltb}
use Rattle.b67_events.specs.Kept.{rank_of, below}
use Rattle.b67_events.proofs.Order.{rising, below_point}
use Rattle.b67_events.proofs.queues.below.Goals as goal

pub returns : goal.returns
returns c =
    let ws = c.args.waiting.now.items in
    let vs = c.deref.result.now in
    let same : vs ≡ ws = search rules in
    let parted = IsPartitionedBy-ltb rank_of vs c.args.rank (subst (IsNonDecreasingBy rank_of) (sym same) (rising ws c.requires)) in
    let point = IsPartitionPoint-from_clause (λ w. ltb (rank_of w) c.args.rank) _ _ c.partition_point.ensures.partitioned parted (λ a r q k. search rules) in
    below_point c.args.rank vs c.partition_point.result c.partition_point.ensures.bound point ∙ ap (below c.args.rank) same
