use Rattle.std.proofs.Common.{refl, ap, List, ℕ, ◌∙◌, length, arith}
use Rattle.std.proofs.lemmas.List.{length-map}
use Rattle.b67_list.specs.Numbered.{numbered}
use Rattle.b67_deeds.specs.declared.EventAct.TheVariants as act
use Rattle.b67_deeds.specs.Deeds.{acts}
use Rattle.b67_events.specs.Events.{Events, waiters_at, position_number_of, position_of}
use Rattle.b67_table.specs.Writes.{able_again}
use Rattle.b67_reach.specs.Images.{image_of}
use Rattle.b67_intrinsics.specs.Called.{ended}
use Rattle.b67_intrinsics.proofs.Acting.{told_is, event_stops, event_ends}
use Rattle.b67_intrinsics.proofs.happening.cause_and_reset.Goals as goal

pub returns-in_err-place-clause-acts : goal.returns-in_err-place-clause-acts
returns-in_err-place-clause-acts g c =
    let img = image_of (g.C.Core.stacks c.args.core.now) (g.C.Core.rows c.args.core.now) c.args.kernel.now c.args.parts.now in
    event_stops (acts act.CauseAndReset) c.args.parts.now.code c.args.next c.args.mark.now c.args.process img
    (numbered c.args.parts.now.regs.items c.args.process) c.in_err-place.field-0.0 c.from_residual.result (c.in_err-place.ensures.leads img refl refl) c.from_residual.ensures.1

pub returns-clause-acts : goal.returns-clause-acts
returns-clause-acts g c =
    let p = c.args.process in
    let at = c.in_ok-place.place in
    let img = image_of (g.C.Core.stacks c.args.core.now) (g.C.Core.rows c.args.core.now) c.args.kernel.now c.args.parts.now in
    let k = c.cause_and_reset.new.self in
    let xs = c.wake_all.new.states.items in
    let ns = c.wake_all.new.numbers.items in
    let mid = record img { events = k.events; lists = k.lists; states = xs; numbers = ns } in
    event_ends (acts act.CauseAndReset) c.args.parts.now.code c.args.next c.args.mark.now p img (numbered c.args.parts.now.regs.items p) at
    (ended (g.C.Core.stacks c.end.new.core) (g.C.Core.rows c.end.new.core) c.end.new.all.items mid) (c.in_ok-place.ensures.leads img refl refl) k xs ns
    (ap (λ (e : Events). e.events) c.cause_and_reset.ensures.after) (ap (λ (e : Events). e.lists) c.cause_and_reset.ensures.after)
    (c.wake_all.ensures.states ∙ ap (λ (ps : List ℕ). able_again ps c.args.parts.now.states.items) c.cause_and_reset.ensures.woken)
    (c.wake_all.ensures.numbers
    ∙ told_is at c.args.kernel.now.lists (waiters_at at c.args.kernel.now.events) c.cause_and_reset.new.woken.processes.items c.cause_and_reset.new.woken.positions.items c.args.parts.now.numbers.items
    c.cause_and_reset.ensures.woken c.cause_and_reset.ensures.positions) (c.end.ensures.acts mid refl refl refl)

pub wake_all-requires : goal.wake_all-requires
wake_all-requires g c =
    let at = c.in_ok-place.place in
    let f : ℕ → ℕ = λ p. position_number_of (position_of at c.args.kernel.now.lists p) in
    omega (arith, ap length c.cause_and_reset.ensures.woken, ap length c.cause_and_reset.ensures.positions ∙ length-map (waiters_at at c.args.kernel.now.events) f)
