use Rattle.std.proofs.Common.{◌≡◌, sym, ap, subst, ◌∙◌, ◌+◌, ◌≤◌, Result, Ok, IsOk, is_ok}
use Rattle.b67_word.specs.declared.Place.{Place}
use Rattle.b67_store.specs.Store.{stack_limit}
use Rattle.b67_table.specs.Look.{look_seen}
use Rattle.b67_linkage.specs.declared.LinkFault.{LinkFault}
use Rattle.b67_linkage.specs.Held.{held, Does}
use Rattle.b67_linkage.specs.Leaving.{Cutting, cuts, target_cells, own_frame}
use Rattle.b67_going.specs.Leaves.{target_events}
use Rattle.b67_going.specs.Targets.{tabled}
use Rattle.b67_going.proofs.Gone.{own_passing, cells_found, events_found, same_cutting}
use Rattle.b67_going.proofs.Above.{changes}
use Rattle.b67_going.proofs.jumps.leave_above.Goals as goal

pub close_events-requires : goal.close_events-requires
close_events-requires g c =
    let st = g.C.Core.stacks c.args.core.now in
    let r = c.args.regs.now in
    let t = c.args.target.now in
    let k = c.requires.clear.0 in
    subst (λ (x : Place). IsOk (look_seen st (target_cells x r.cells t.frame.at))) (sym c.frame_of.ensures)
    (ap is_ok (cells_found st (own_frame r) r.cells t.frame.at k.passing (own_passing st r t.frame t.level k c.requires.own c.requires.clear.1)))

pub returns-clause-changes : goal.returns-clause-changes
returns-clause-changes g c = λ k cut p img s u v.
    let st = g.C.Core.stacks c.args.core.now in
    let rows = g.C.Core.rows c.args.core.now in
    let r = c.args.regs.now in
    let t = tabled c.args.target.now in
    let after = held (g.C.Core.stacks c.cut_to.new.core) (g.C.Core.rows c.cut_to.new.core) c.cut_to.new.regs in
    let low = subst (λ (x : Cutting). t.frame.at + 2 + x.passing.cells ≤ stack_limit) (same_cutting c.requires.clear.0 k (sym c.requires.clear.1 ∙ cut)) c.requires.clear.2 in
    let done = subst (λ (res : Result (Unit {0}) LinkFault). Does (cuts (held st rows r) t.level) res after) c.unwrap.ensures c.cut_to.ensures.answer in
    let less = subst (λ (x : Place). look_seen st (target_events c.args.kernel.now.events x r.cells t.frame.at) ≡ Ok c.close_events.new.kernel.events) c.frame_of.ensures c.close_events.ensures.events in
    changes st rows r t k c.requires.frame c.requires.own cut low after c.args.kernel.now.events c.close_events.new.kernel.events p img done
    (events_found st (own_frame r) r.cells t.frame.at k.passing c.args.kernel.now.events c.close_events.new.kernel.events
    (own_passing st r t.frame t.level k c.requires.own cut) less) s u v
