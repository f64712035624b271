use Rattle.std.proofs.Common.{◌≡◌, ℕ, true, List, [], ◌∷◌, take, drop, ap, sym, ◌∙◌}
use Rattle.algol_meaning.specs.Value.{event}
use Rattle.b67_deeds.specs.Events.{EventState, passed_on}
use Rattle.std.specs.Prelude.{Result, Ok, Err, IfOk}
use Rattle.algol_meaning.specs.World.{World, set_able, set_all_able}
use Rattle.algol_meaning.specs.Events.{event_at, set_event}
use Rattle.b67_deeds.specs.declared.EventAct.TheVariants as act
use Rattle.b67_deeds.specs.Deeds.{acts}
use Rattle.algol_world.specs.Going.{done_with}
use Rattle.algol_cells.specs.SeenCell as seen
use Rattle.algol_cells.specs.SeenCell.{reference}
use Rattle.algol_world.specs.SeenWorld.{world_of}
use Rattle.algol_instances.proofs.Setting.{set_taken}
use Rattle.algol_world.proofs.world.World.liberate.Goals as goal

pub returns-in-None-clause-after : goal.returns-in-None-clause-after
returns-in-None-clause-after c = λ p.
    let w = world_of c.args.self.now in
    let r = reference c.args.r in
    let e = seen.event c.take_event-event.result in
    let none : (event_at w r).procurers ≡ [] =
    sym (ap (λ (x : EventState). x.procurers) c.take_event-event.ensures.value) ∙ c.in-None.ensures.0 in
    let left = c.in-None.ensures.1 ∙ sym c.in-None.ensures.0 in
    let change = λ (x : EventState). record x { available = true } in
    rw none
    (set_taken w (world_of c.take_event-event.new.self) (world_of c.set_cell.new.self) r _ (event (change (event_at w r)))
    c.take_event-event.ensures.after c.set_cell.ensures.after
    (ap (λ (ps : _). event (record e { available = true; procurers = ps })) left ∙ ap (λ (x : EventState). event (change x)) c.take_event-event.ensures.value))

always : {T E : Type 0} (P : Type 0) (r : Result T E) → P → IfOk r (λ x. P)
always P (Ok x) p = p
always P (Err e) p = tt

pub returns-in-Some-clause-after : goal.returns-in-Some-clause-after
returns-in-Some-clause-after c =
    let w = world_of c.args.self.now in
    let r = reference c.args.r in
    let next = c.in-Some.next in
    let rest = c.take_first.new.list in
    let some : (event_at w r).procurers ≡ next ∷ rest =
    sym (ap (λ (x : EventState). x.procurers) c.take_event-event.ensures.value) ∙ c.in-Some.ensures in
    let change = λ (x : EventState). record x { procurers = rest } in
    let set =
    set_taken w (world_of c.take_event-event.new.self) (world_of c.set_cell-in-Some.new.self) r _ (event (change (event_at w r)))
    c.take_event-event.ensures.after c.set_cell-in-Some.ensures.after (ap (λ (x : EventState). event (change x)) c.take_event-event.ensures.value) in
    always ((p : ℕ) → world_of c.release.new.self ≡ (done_with w p (acts act.Liberate) r).world) c.one_item.result
    (λ p. c.release.ensures.went ∙ ap (λ (v : World). set_able v next) set
    ∙ ap (λ (ps : List ℕ). set_able (set_event w r (record (event_at w r) { procurers = drop 1 ps })) next) (sym some)
    ∙ ap (λ (ps : List ℕ). set_all_able (set_event w r (passed_on ps (event_at w r))) (take 1 ps)) (sym some))
