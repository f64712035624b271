use Rattle.std.proofs.Common.{ap, ◌∙◌}
use Rattle.std.proofs.lemmas.List.{drop_all}
use Rattle.algol_sites.specs.Wanting.{are_miscounted}
use Rattle.algol_tree.specs.declared.refusal.Code.TheVariants as codes
use Rattle.algol_tree.specs.Accepted.{noted_all}
use Rattle.algol_sites.specs.Noting.{broken_if}
use Rattle.algol_sites.proofs.Events.{each_event, events_end, events_step}
use Rattle.algol_sites.proofs.wanted.want_events.Goals as goal

pub events-preserved : goal.events-preserved
events-preserved c = λ a t.
    let inv = c.events.invariant a t in
    let told = each_event c.args.scopes.now a c.args.events.now c.events.event-index c.event-item.result c.events-test.true c.event-item.is inv.1 in (
      events_step c.args.events.now c.events.event-index c.event-item.result a c.events.faults.first c.want_event.new.faults.first c.events-test.true c.event-item.is
          (c.want_event.ensures a told.0) ∙ inv.0,
      told.1,
    )

pub returns : goal.returns
returns c = λ a t.
    c.note_if.ensures
    ∙ ap (λ b. noted_all c.events.faults.first (broken_if codes.WrongCount b c.args.spot)) c.is_miscount.ensures
    ∙ ap (λ o. noted_all o (broken_if codes.WrongCount (are_miscounted c.args.events.now) c.args.spot))
    (events_end c.args.events.now c.events.event-index a c.events.faults.first _ (drop_all c.events.event-index c.args.events.now c.events-test.false)
    (c.events.invariant a t).0)
