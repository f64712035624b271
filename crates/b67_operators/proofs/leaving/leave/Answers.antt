use Rattle.std.proofs.Common.{◌≡◌, ap, subst, ◌∙◌, ℕ, Option}
use Rattle.b67_control.specs.declared.Registers.{Registers}
use Rattle.b67_events.specs.Events.{Events, closed_from}
use Rattle.b67_table.specs.Chains.{place}
use Rattle.b67_operators.specs.Leaves.{IsLinkedIn}
use Rattle.b67_reach.specs.Images.{image_of}
use Rattle.b67_operators.proofs.Leaves.{other_stops, other_goes, acts_exit}
use Rattle.b67_operators.proofs.leaving.leave.Goals as goal

pub returns-in_err-found-clause-acts : goal.returns-in_err-found-clause-acts
returns-in_err-found-clause-acts g c = λ next.
    let st = g.C.Core.stacks c.args.core.now in
    let rows = g.C.Core.rows c.args.core.now in
    let img = image_of st rows c.args.kernel.now c.args.parts.now in
    let r = c.registers-regs.result.now in
    acts_exit c.args.process _ img img c.from_residual.result c.in_err-found.field-0.0 c.from_residual.ensures.1
    (other_stops c.args.process img r c.args.value c.registers-regs.ensures next (place r.stack c.frame_of.result) (ap (λ (n : ℕ). place r.stack n) c.frame_of.ensures)
    c.deref.result.now c.deref-2.result.now c.deref.ensures.value c.deref-2.ensures.value
    c.in_err-found.field-0.0 c.in_err-found.ensures.value)

pub returns-clause-acts : goal.returns-clause-acts
returns-clause-acts g c = λ next.
    let st = g.C.Core.stacks c.args.core.now in
    let rows = g.C.Core.rows c.args.core.now in
    let img = image_of st rows c.args.kernel.now c.args.parts.now in
    let r = c.registers-regs.result.now in
    let events_are : c.close_from.new.self.events ≡ closed_from r.stack c.frame_of.result c.args.kernel.now.events =
    ap (λ (e : Events). e.events) c.close_from.ensures ∙ ap (λ (n : ℕ). closed_from r.stack n c.args.kernel.now.events) c.from.ensures in
    other_goes c.args.process img r c.args.value c.registers-regs.ensures next (place r.stack c.frame_of.result) (ap (λ (n : ℕ). place r.stack n) c.frame_of.ensures)
    c.deref.result.now c.deref-2.result.now c.deref.ensures.value c.deref-2.ensures.value
    c.in_ok-found.found (g.C.Core.stacks c.leave_frame_in.new.core) (g.C.Core.rows c.leave_frame_in.new.core) c.leave_frame_in.new.all.items c.close_from.new.self.events c.close_from.new.self.lists
    c.in_ok-found.ensures.value (subst (λ (o : Option Registers). IsLinkedIn st rows o) c.registers-regs.ensures c.requires.linked) c.leave_frame_in.ensures.left events_are (ap (λ (e : Events). e.lists) c.close_from.ensures)
