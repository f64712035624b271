use Rattle.std.proofs.Common.{◌≡◌, ap, subst, ℕ, nat_le, ◌+◌, ◌-◌, Some, Ok, Err}
use Rattle.b67_control.specs.declared.Registers.{Registers}
use Rattle.b67_table.specs.Limits.{most_cells}
use Rattle.b67_table.specs.Look.{look_seen}
use Rattle.b67_table.specs.Linkage.{entering}
use Rattle.b67_table.specs.Program.{answer}
use Rattle.b67_reach.specs.Images.{own_of_image}
use Rattle.b67_reach.specs.Answers.{looked, ProgramPerforms}
use Rattle.b67_operators.specs.Entries.{entry_opening}
use Rattle.b67_operators.proofs.Callings.{entry_goes, entry_stops}
use Rattle.b67_operators.proofs.calling.enter_in.Goals as goal

pub returns-in_err-entry : goal.returns-in_err-entry
returns-in_err-entry g c =
    let st = g.C.Core.stacks c.args.core.now in
    let rows = g.C.Core.rows c.args.core.now in
    entry_stops (own_of_image st rows c.args.regs.now) c.args.next c.args.df c.args.pcw.now c.args.home c.from_residual.result (own_of_image st rows c.entering_after.new.regs)
    c.in_err-entry.field-0.0 (ap (λ (q : Registers). own_of_image st rows q) c.entering_after.ensures.same)
    (subst (λ (n : ℕ). Err c.in_err-entry.field-0.0 ≡ looked (look_seen st (entering c.args.regs.now c.args.next (nat_le (c.args.regs.now.s - (n + 2)) most_cells) c.args.regs.now.f c.args.pcw.now (Some c.args.home))))
    c.from.ensures c.in_err-entry.ensures.value)
    c.from_residual.ensures.1

pub returns : goal.returns
returns g c =
    let st = g.C.Core.stacks c.args.core.now in
    let rows = g.C.Core.rows c.args.core.now in
    let new = own_of_image (g.C.Core.stacks c.open_frame.new.core) (g.C.Core.rows c.open_frame.new.core) c.open_frame.new.regs in
    entry_goes (own_of_image st rows c.args.regs.now) c.args.next c.args.df c.args.pcw.now c.args.home (Ok c.open_frame.result) new c.in_ok-entry.entry
    (subst (λ (n : ℕ). Ok c.in_ok-entry.entry ≡ looked (look_seen st (entering c.args.regs.now c.args.next (nat_le (c.args.regs.now.s - (n + 2)) most_cells) c.args.regs.now.f c.args.pcw.now (Some c.args.home))))
    c.from.ensures c.in_ok-entry.ensures.value)
    (subst (λ (q : Registers). ProgramPerforms (answer (entry_opening q c.args.next c.args.df c.args.pcw.now c.in_ok-entry.entry)) (own_of_image st rows q) new (Ok c.open_frame.result))
    c.entering_after.ensures.same c.open_frame.ensures)
