use Rattle.std.proofs.Common.{ap, subst, Ok, ◌-◌, arith}
use Rattle.b67_control.specs.declared.Registers.{Registers}
use Rattle.b67_table.specs.Program.{answer}
use Rattle.b67_reach.specs.Images.{own_of_image}
use Rattle.b67_reach.specs.Answers.{ProgramPerforms}
use Rattle.b67_operators.specs.Entries.{accident}
use Rattle.b67_operators.proofs.Accidents.{accident_goes, accident_stops, accident_limit}
use Rattle.b67_operators.proofs.entering.enter_at.Goals as goal

pub returns-in_err-entry : goal.returns-in_err-entry
returns-in_err-entry g c =
    let st = g.C.Core.stacks c.args.core.now in
    let rows = g.C.Core.rows c.args.core.now in
    accident_stops (own_of_image st rows c.args.regs.now) c.args.next c.args.taken c.args.pcw.now c.args.home c.args.selector c.from_residual.result
    (own_of_image st rows c.entering_after.new.regs) c.in_err-entry.field-0.0 (ap (λ (q : Registers). own_of_image st rows q) c.entering_after.ensures.same)
    c.in_err-entry.ensures.value c.from_residual.ensures.1

pub returns-then-from-selectors : goal.returns-then-from-selectors
returns-then-from-selectors g c =
    let st = g.C.Core.stacks c.args.core.now in
    let rows = g.C.Core.rows c.args.core.now in
    accident_limit (own_of_image st rows c.args.regs.now) c.args.next c.args.taken c.args.pcw.now c.args.home c.args.selector
    (Ok tt) (own_of_image st rows c.entering_after.new.regs) c.in_ok-entry.entry (ap (λ (q : Registers). own_of_image st rows q) c.entering_after.ensures.same)
    c.in_ok-entry.ensures.value (omega arith)

pub returns : goal.returns
returns g c =
    let st = g.C.Core.stacks c.args.core.now in
    let rows = g.C.Core.rows c.args.core.now in
    let new = own_of_image (g.C.Core.stacks c.open_frame.new.core) (g.C.Core.rows c.open_frame.new.core) c.open_frame.new.regs in
    accident_goes (own_of_image st rows c.args.regs.now) c.args.next c.args.taken c.args.pcw.now c.args.home c.args.selector (Ok c.open_frame.result)
    new c.in_ok-entry.entry c.in_ok-entry.ensures.value
    (subst (λ (q : Registers). ProgramPerforms (answer (accident q c.args.next (c.args.regs.now.s - c.args.taken) c.args.pcw.now c.in_ok-entry.entry c.args.selector)) (own_of_image st rows q) new (Ok c.open_frame.result)) c.entering_after.ensures.same c.open_frame.ensures)
