use Rattle.std.proofs.Common.{List, [], ◌∷◌, length, refl}
use Rattle.algol_tree.specs.declared.tree.EventName.{EventName}
use Rattle.algol_names.specs.Found.{at, in_events}
use Rattle.algol_names.proofs.Adding.{list_step}
use Rattle.algol_names.proofs.expressions.add_events.Goals as goal

pub events-preserved : goal.events-preserved
events-preserved c =
    let k = length c.args.outer.now in
    list_step (λ (es : List EventName). in_events es k) (λ (e : EventName). at e.name k ∷ []) (λ e es. refl) c.args.events.now c.events.event-index c.event-item.result
    c.events.names.items c.add.new.names.items _ c.events-test.true c.event-item.is c.in_ok-add.ensures c.events.invariant
