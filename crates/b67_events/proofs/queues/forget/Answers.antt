use Rattle.std.proofs.Common.{◌+◌, not, ap, ◌∙◌, arith}
use Rattle.std.specs.Prelude.{filter}
use Rattle.b67_events.specs.Events.{same_place}
use Rattle.b67_events.specs.Kept.{rank_at, is_ranked}
use Rattle.b67_events.specs.declared.Queue.TheVariants.{Waiters}
use Rattle.b67_events.proofs.Order.{filter_low, ranks_of_place}
use Rattle.b67_events.proofs.queues.forget.Goals as goal

pub returns-clause-kept : goal.returns-clause-kept
returns-clause-kept c =
    let ws = c.args.waiting.now.items in
    let at = c.args.at in
    let r = rank_at Waiters at in
    c.cut.ensures.kept
    ∙ ap (λ n. filter (λ w. not (is_ranked n (n + 2) w)) ws) c.rank_at-from.ensures
    ∙ filter_low (λ w. not (is_ranked r (r + 2) w)) (λ w. not (same_place w.place at)) (λ w low. ap not (ranks_of_place at w (omega (arith, c.well_formed)) low)) ws c.requires
