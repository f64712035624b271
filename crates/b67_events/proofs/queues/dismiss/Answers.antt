use Rattle.std.proofs.Common.{◌+◌, not, sym, ap, ◌∙◌, arith}
use Rattle.std.specs.Prelude.{filter}
use Rattle.b67_events.specs.Kept.{stands_in, rank_at, below, is_ranked}
use Rattle.b67_events.specs.declared.Queue.TheVariants.{Waiters}
use Rattle.b67_events.proofs.Order.{filter_low, ranks_of_list}
use Rattle.b67_events.proofs.queues.dismiss.Goals as goal

pub cut-requires-clause-known : goal.cut-requires-clause-known
cut-requires-clause-known c = c.requires.known ∙ ap (λ r. below r c.args.waiting.now.items) (sym c.rank_at-from.ensures)

pub returns-clause-kept : goal.returns-clause-kept
returns-clause-kept c =
    let ws = c.args.waiting.now.items in
    let at = c.args.at in
    let r = rank_at Waiters at in
    c.cut.ensures.kept
    ∙ ap (λ n. filter (λ w. not (is_ranked n (n + 1) w)) ws) c.rank_at-from.ensures
    ∙ filter_low (λ w. not (is_ranked r (r + 1) w)) (λ w. not (stands_in Waiters at w)) (λ w low. ap not (ranks_of_list at w (omega (arith, c.well_formed)) low)) ws c.requires.order
