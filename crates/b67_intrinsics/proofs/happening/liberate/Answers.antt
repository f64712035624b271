use Rattle.std.proofs.Common.{refl, ap, List, ℕ, ◌∙◌}
use Rattle.b67_list.specs.Numbered.{numbered}
use Rattle.b67_deeds.specs.declared.EventAct.TheVariants as act
use Rattle.b67_deeds.specs.Deeds.{acts}
use Rattle.b67_events.specs.Events.{Events, procurers_at}
use Rattle.b67_table.specs.Writes.{able_again}
use Rattle.b67_reach.specs.Images.{image_of}
use Rattle.b67_intrinsics.specs.Called.{ended, process_listed}
use Rattle.b67_intrinsics.proofs.Acting.{first_listed, event_stops, event_ends}
use Rattle.b67_intrinsics.proofs.happening.liberate.Goals as goal

pub returns-in_err-place-clause-acts : goal.returns-in_err-place-clause-acts
returns-in_err-place-clause-acts g c =
    let img = image_of (g.C.Core.stacks c.args.core.now) (g.C.Core.rows c.args.core.now) c.args.kernel.now c.args.parts.now in
    event_stops (acts act.Liberate) c.args.parts.now.code c.args.next c.args.mark.now c.args.process img
    (numbered c.args.parts.now.regs.items c.args.process) c.in_err-place.field-0.0 c.from_residual.result (c.in_err-place.ensures.leads img refl refl) c.from_residual.ensures.1

pub returns-clause-acts : goal.returns-clause-acts
returns-clause-acts g c =
    let p = c.args.process in
    let at = c.in_ok-place.place in
    let img = image_of (g.C.Core.stacks c.args.core.now) (g.C.Core.rows c.args.core.now) c.args.kernel.now c.args.parts.now in
    let k = c.liberate-served.new.self in
    let xs = c.wake_one.new.states.items in
    let ns = c.args.parts.now.numbers.items in
    let mid = record img { events = k.events; lists = k.lists; states = xs; numbers = ns } in
    event_ends (acts act.Liberate) c.args.parts.now.code c.args.next c.args.mark.now p img (numbered c.args.parts.now.regs.items p) at
    (ended (g.C.Core.stacks c.end.new.core) (g.C.Core.rows c.end.new.core) c.end.new.all.items mid) (c.in_ok-place.ensures.leads img refl refl) k xs ns
    (ap (λ (e : Events). e.events) c.liberate-served.ensures.after) (ap (λ (e : Events). e.lists) c.liberate-served.ensures.after)
    (c.wake_one.ensures.states ∙ ap (λ (ps : List ℕ). able_again ps c.args.parts.now.states.items)
    (ap process_listed c.liberate-served.ensures.answer ∙ first_listed (procurers_at at c.args.kernel.now.events)))
    refl (c.end.ensures.acts mid refl refl refl)
