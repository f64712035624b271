use Rattle.std.proofs.Common.{◌≡◌, sym, ap, subst, ◌∙◌, List, Option}
use Rattle.b67_list.specs.Numbered.{set_numbered}
use Rattle.b67_control.specs.declared.Registers.{Registers}
use Rattle.b67_events.specs.Events.{Event, Events, closed_from}
use Rattle.b67_table.specs.declared.ProcessState.{ProcessState}
use Rattle.b67_table.specs.declared.ProcessState.TheVariants.{Ended}
use Rattle.b67_table.specs.Writes.{able_again}
use Rattle.b67_operators.specs.Leaves.{IsLinkedIn, task_caused, task_waiters, task_numbers}
use Rattle.b67_reach.specs.Images.{image_of}
use Rattle.b67_operators.proofs.Leaves.{base_goes}
use Rattle.b67_operators.proofs.leaving.end.Goals as goal

pub returns-clause-acts : goal.returns-clause-acts
returns-clause-acts g c =
    let st = g.C.Core.stacks c.args.core.now in
    let rows = g.C.Core.rows c.args.core.now in
    let img = image_of st rows c.args.kernel.now c.args.parts.now in
    let p = c.args.process in
    let r = c.registers-regs.result.now in
    let shut : c.close_from.new.self.events ≡ closed_from r.stack 0 c.args.kernel.now.events = ap (λ (e : Events). e.events) c.close_from.ensures in
    base_goes p img r c.args.next c.registers-regs.ensures c.deref.result.now c.deref-2.result.now (g.C.Core.stacks c.leave_base_in.new.core) (g.C.Core.rows c.leave_base_in.new.core) c.leave_base_in.new.all.items
    c.args.kernel.now.room c.cause_task.new.kernel c.set_state.new.states.items c.cause_task.new.numbers.items
    c.deref.ensures.value c.deref-2.ensures.value (sym c.if-is_needed.false ∙ c.is_needed.ensures) (subst (λ (o : Option Registers). IsLinkedIn st rows o) c.registers-regs.ensures c.requires.linked)
    c.leave_base_in.ensures.left (c.cause_task.ensures.kernel ∙ ap (task_caused r.task) c.close_from.ensures)
    (c.set_state.ensures ∙ ap (λ (ss : List ProcessState). set_numbered ss p Ended)
    (c.cause_task.ensures.states ∙ ap (λ (es : List Event). able_again (task_waiters r.task es) c.args.parts.now.states.items) shut))
    (c.cause_task.ensures.numbers ∙ ap (λ (k : Events). task_numbers r.task k c.args.parts.now.numbers.items) c.close_from.ensures)
