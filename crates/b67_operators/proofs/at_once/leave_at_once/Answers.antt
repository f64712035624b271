use Rattle.std.proofs.Common.{◌≡◌, sym, ap, subst, ◌∙◌, ℕ, [], ◌∷◌, Bool, false, Option, Result, Ok}
use Rattle.b67_control.specs.declared.Registers.{Registers}
use Rattle.b67_events.specs.Events.{Events, closed_from}
use Rattle.b67_table.specs.declared.InterruptKind.{InterruptKind}
use Rattle.b67_table.specs.declared.Leaving.{Leaving}
use Rattle.b67_table.specs.Chains.{place}
use Rattle.b67_table.specs.Linkage.{is_critical}
use Rattle.b67_table.specs.Questions.{live_criticals}
use Rattle.b67_linkage.specs.Showing.{leaving_shown}
use Rattle.b67_operators.specs.Leaves.{IsLinkedIn, below_found}
use Rattle.b67_reach.specs.Images.{image_of}
use Rattle.b67_operators.proofs.Leaves.{other_goes}
use Rattle.b67_operators.proofs.at_once.leave_at_once.Goals as goal

pub returns-clause-left : goal.returns-clause-left
returns-clause-left g c = λ done next.
    let st = g.C.Core.stacks c.args.core.now in
    let rows = g.C.Core.rows c.args.core.now in
    let img = image_of st rows c.args.kernel.now c.args.parts.now in
    let r = c.registers-regs.result.now in
    let l = leaving_shown r c.in-Some.below in
    let here = place r.stack c.frame_of.result in
    let critical = is_critical here.stack (here.at ∷ []) (live_criticals c.deref.result.now c.deref-2.result.now) in
    let calm : critical ≡ false = sym c.is_needed.ensures ∙ c.if-is_needed.false in
    let found = sym (ap (λ (q : Result Leaving InterruptKind). below_found q critical) c.in-Some.ensures.value ∙ ap (λ (b : Bool). below_found (Ok l) b) calm) in
    let events_are : c.close_from.new.self.events ≡ closed_from r.stack c.frame_of.result c.args.kernel.now.events =
    ap (λ (e : Events). e.events) c.close_from.ensures ∙ ap (λ (n : ℕ). closed_from r.stack n c.args.kernel.now.events) c.from.ensures in
    other_goes c.args.process img r c.args.value c.registers-regs.ensures next here (ap (λ (n : ℕ). place r.stack n) c.frame_of.ensures)
    c.deref.result.now c.deref-2.result.now c.deref.ensures.value c.deref-2.ensures.value
    l (g.C.Core.stacks c.leave_shown_in.new.core) (g.C.Core.rows c.leave_shown_in.new.core) c.leave_shown_in.new.all.items c.close_from.new.self.events c.close_from.new.self.lists
    found (subst (λ (o : Option Registers). IsLinkedIn st rows o) c.registers-regs.ensures c.requires.linked)
    (c.leave_shown_in.ensures.left r c.registers-regs.ensures) events_are (ap (λ (e : Events). e.lists) c.close_from.ensures)
