use Rattle.std.proofs.Common.{◌≡◌, sym, ap, ◌∙◌, ℕ, ◌-◌, true, false, List, Ok, Err, is_ok}
use Rattle.b67_events.specs.Events.{Event, Events, closed_from}
use Rattle.b67_table.specs.declared.InterruptKind.TheVariants.{BrokenChain}
use Rattle.b67_table.specs.Look.{look_seen, found, ◌>->◌}
use Rattle.b67_table.specs.Chains.{place, left_to}
use Rattle.b67_table.specs.GoingTo.{Passing, passing}
use Rattle.b67_display.specs.Found.{chain_shown}
use Rattle.b67_linkage.specs.Leaving.{target_cells}
use Rattle.b67_linkage.proofs.Passed.{steps_down, stops_there, frame_with}
use Rattle.b67_going.specs.Leaves.{without_events}
use Rattle.b67_going.proofs.leaves.close_events.Goals as goal

pub returns-in-Err-clause-events : goal.returns-in-Err-clause-events
returns-in-Err-clause-events g c =
    let st = g.C.Core.stacks c.args.core.now in
    let stopped : look_seen st (target_cells c.args.from c.args.cells c.args.target) ≡ Err BrokenChain =
    c.down.invariant.2
    ∙ stops_there st c.args.from.stack c.args.target c.down.at c.down.invariant.0 (λ (p : Passing). p.cells) c.down.steps BrokenChain c.down-test.true c.if-at-target.false
    (sym c.left_to.ensures.value ∙ ap chain_shown c.in-Err.is) in
    let no : false ≡ true = sym (ap is_ok stopped) ∙ c.requires in
    absurd cc

pub down-preserved : goal.down-preserved
down-preserved g c =
    let st = g.C.Core.stacks c.args.core.now in
    let b = c.in-Ok.below in
    let n = c.down.steps - 1 in
    let count = c.down.invariant.0 in
    let below : look_seen st (left_to (place c.args.from.stack c.down.at)) ≡ Ok b = sym c.left_to.ensures.value ∙ ap chain_shown c.in-Ok.is in
    let events : c.close_from.new.self.events ≡ closed_from c.args.from.stack c.down.at c.down.kernel.events =
    ap (λ (e : Events). e.events) c.close_from.ensures ∙ ap (λ (k : ℕ). closed_from c.args.from.stack k c.down.kernel.events) c.from.ensures in (
      b.control.caller_cells,
      ap (λ (e : Events). e.room) c.close_from.ensures ∙ c.down.invariant.1,
      c.down.invariant.2
          ∙ steps_down st c.args.from.stack c.args.target c.down.at count (λ (p : Passing). p.cells) c.down.steps b c.down-test.true c.if-at-target.false below,
      c.down.invariant.3
          ∙ steps_down st c.args.from.stack c.args.target c.down.at count (λ (p : Passing). without_events c.args.from.stack p.frames c.down.kernel.events) c.down.steps b
          c.down-test.true c.if-at-target.false below
          ∙ ap (λ (z : List Event). look_seen st (passing n c.args.from.stack c.args.target (frame_with b.frame b.control.caller_cells) >-> (λ (p : Passing). found (without_events c.args.from.stack p.frames z)))) (sym events),
      ap (λ (e : Events). e.lists) c.close_from.ensures ∙ c.down.invariant.4,
    )
