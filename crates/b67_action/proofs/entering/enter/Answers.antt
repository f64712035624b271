use Rattle.std.proofs.Common.{true, false, refl, sym, subst, ◌∙◌, Option, Result}
use Rattle.b67_list.specs.Numbered.{numbered}
use Rattle.b67_list.proofs.Answered.{when_ok}
use Rattle.b67_control.specs.declared.Registers.{Registers}
use Rattle.b67_table.specs.Rows.{enter}
use Rattle.b67_intrinsics.specs.declared.hindrance.Hindrance.{Hindrance}
use Rattle.b67_intrinsics.specs.Called.{Tries}
use Rattle.b67_operators.specs.Leaves.{program_in}
use Rattle.b67_reach.specs.Images.{image_of}
use Rattle.b67_action.specs.Acting.{CallsMaker}
use Rattle.b67_action.specs.Among.{with_all, entry_program}
use Rattle.b67_action.proofs.Calling.{enter_stops, enter_calls, enter_enters, tries_plainly, never_hindered}
use Rattle.b67_action.proofs.Lettering.{entered_letter}
use Rattle.b67_action.proofs.Releasing.{on_same, enter_releases}
use Rattle.b67_action.proofs.entering.enter.Goals as goal

pub returns-in-Err-clause-tries : goal.returns-in-Err-clause-tries
returns-in-Err-clause-tries g c =
    let img = image_of (g.C.Core.stacks c.args.core.now) (g.C.Core.rows c.args.core.now) c.args.kernel.now c.args.parts.now in
    enter_stops c.args.process c.args.parts.now.code img c.registers-regs.result.now c.args.next (numbered c.args.parts.now.regs.items c.args.process) c.registers-regs.ensures
    c.in-Err.stop c.in-Err.ensures.value

pub returns-then-called-clause-tries : goal.returns-then-called-clause-tries
returns-then-called-clause-tries g c =
    let img = image_of (g.C.Core.stacks c.args.core.now) (g.C.Core.rows c.args.core.now) c.args.kernel.now c.args.parts.now in
    let new = image_of (g.C.Core.stacks c.call.new.core) (g.C.Core.rows c.call.new.core) c.call.new.kernel c.call.new.parts in
    enter_calls c.args.process c.args.parts.now.code img c.registers-regs.result.now c.args.next (numbered c.args.parts.now.regs.items c.args.process) c.registers-regs.ensures
    c.in-Ok.called c.in-Ok.ensures.value new c.call.result (sym c.if-called.true) c.call.ensures.tries

pub returns-then-called-clause-making : goal.returns-then-called-clause-making
returns-then-called-clause-making g c = λ m.
    subst (λ (o : Option Registers). CallsMaker (g.C.Core.stacks c.args.core.now) o) (sym c.registers-regs.ensures)
    (c.in-Ok.called, c.in-Ok.ensures.value, c.if-called.true, c.call.ensures.making m)

pub returns-else-called-clause-tries : goal.returns-else-called-clause-tries
returns-else-called-clause-tries g c =
    let img = image_of (g.C.Core.stacks c.args.core.now) (g.C.Core.rows c.args.core.now) c.args.kernel.now c.args.parts.now in
    let new = with_all (g.C.Core.stacks c.enter_procedure.new.core) (g.C.Core.rows c.enter_procedure.new.core) c.enter_procedure.new.all.items img in
    subst (λ (res : Result (Unit {0}) Hindrance). Tries c.args.process (program_in (enter c.args.parts.now.code) (numbered c.args.parts.now.regs.items c.args.process) c.args.next) img new res)
    (sym c.hindered.ensures)
    (enter_enters c.args.process c.args.parts.now.code img c.registers-regs.result.now c.args.next (numbered c.args.parts.now.regs.items c.args.process) c.registers-regs.ensures
    c.in-Ok.called c.in-Ok.ensures.value new _ (sym c.if-called.false)
    (tries_plainly c.args.process (program_in (entry_program c.in-Ok.called) (numbered c.args.parts.now.regs.items c.args.process) c.args.next) img new c.enter_procedure.result
    (c.enter_procedure.ensures.acts img refl refl refl)))

pub returns-else-called-clause-making : goal.returns-else-called-clause-making
returns-else-called-clause-making g c = λ m. absurd (never_hindered c.enter_procedure.result (sym c.hindered.ensures ∙ m))

pub returns-then-called-clause-woken : goal.returns-then-called-clause-woken
returns-then-called-clause-woken g c =
    let img = image_of (g.C.Core.stacks c.args.core.now) (g.C.Core.rows c.args.core.now) c.args.kernel.now c.args.parts.now in
    on_same c.call.result _ _
    (enter_releases img (numbered c.args.parts.now.regs.items c.args.process) c.registers-regs.result.now c.registers-regs.ensures c.in-Ok.called c.in-Ok.ensures.value
    c.args.parts.now.woken.processes.items c.call.new.parts.woken.processes.items true c.if-called.true)
    c.call.ensures.woken

pub returns-else-called-clause-woken : goal.returns-else-called-clause-woken
returns-else-called-clause-woken g c =
    let img = image_of (g.C.Core.stacks c.args.core.now) (g.C.Core.rows c.args.core.now) c.args.kernel.now c.args.parts.now in
    when_ok c.hindered.result _
    (enter_releases img (numbered c.args.parts.now.regs.items c.args.process) c.registers-regs.result.now c.registers-regs.ensures c.in-Ok.called c.in-Ok.ensures.value
    c.args.parts.now.woken.processes.items c.args.parts.now.woken.processes.items false c.if-called.false refl)

pub returns-then-called-clause-letter : goal.returns-then-called-clause-letter
returns-then-called-clause-letter g c =
    let img = image_of (g.C.Core.stacks c.args.core.now) (g.C.Core.rows c.args.core.now) c.args.kernel.now c.args.parts.now in
    when_ok c.call.result _
    (entered_letter img (numbered c.args.parts.now.regs.items c.args.process) c.registers-regs.result.now c.in-Ok.called c.woken_number-woken.result c.from.result c.called_letter.result c.registers-regs.ensures
    c.in-Ok.ensures.value c.from.ensures c.woken_number-woken.ensures c.called_letter.ensures)

pub returns-else-called-clause-letter : goal.returns-else-called-clause-letter
returns-else-called-clause-letter g c =
    let img = image_of (g.C.Core.stacks c.args.core.now) (g.C.Core.rows c.args.core.now) c.args.kernel.now c.args.parts.now in
    when_ok c.hindered.result _
    (entered_letter img (numbered c.args.parts.now.regs.items c.args.process) c.registers-regs.result.now c.in-Ok.called c.woken_number-woken.result c.from.result c.called_letter.result c.registers-regs.ensures
    c.in-Ok.ensures.value c.from.ensures c.woken_number-woken.ensures c.called_letter.ensures)
