use Rattle.std.proofs.Common.{◌+◌, ◌*◌, not, sym, ap, ◌∙◌, arith}
use Rattle.std.specs.Prelude.{filter}
use Rattle.b67_list.proofs.Numbers.{not_less}
use Rattle.b67_events.specs.Events.{is_from}
use Rattle.b67_events.specs.Kept.{is_ranked}
use Rattle.b67_events.proofs.Order.{filter_low, ranks_of_stack, none_as_high}
use Rattle.b67_events.proofs.queues.forget_from.Goals as goal

pub returns-in_default-clause-kept : goal.returns-in_default-clause-kept
returns-in_default-clause-kept c =
    sym (none_as_high c.args.stack c.args.at c.args.waiting.now.items (not_less c.args.at 65536 c.in_default.ensures) c.requires)

pub returns-clause-kept : goal.returns-clause-kept
returns-clause-kept c =
    let ws = c.args.waiting.now.items in
    let stack = c.args.stack in
    let at = c.in-Ok.lowest in
    let f = stack * 131072 + at * 2 + 0 in
    c.cut.ensures.kept
    ∙ ap (λ n. filter (λ w. not (is_ranked n ((c.from.result + 1) * 131072) w)) ws) c.rank_at-from.ensures
    ∙ ap (λ n. filter (λ w. not (is_ranked f ((n + 1) * 131072) w)) ws) c.from.ensures
    ∙ filter_low (λ w. not (is_ranked f ((stack + 1) * 131072) w)) (λ w. not (is_from stack at w.place))
    (λ w low. ap not (ranks_of_stack stack at w (omega (arith, c.in-Ok.ensures)) low)) ws c.requires
    ∙ ap (λ n. filter (λ w. not (is_from stack n w.place)) ws) c.in-Ok.ensures.1
