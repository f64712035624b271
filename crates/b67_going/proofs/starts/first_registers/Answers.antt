use Rattle.std.proofs.Common.{sym, subst, ◌∙◌, Option, Result, Ok, Err}
use Rattle.b67_word.specs.declared.Place.{Place}
use Rattle.b67_table.specs.Starting.{on_path}
use Rattle.b67_reach.specs.declared.Stop.{Stop}
use Rattle.b67_going.specs.Paths.{TestLeads, needed}
use Rattle.b67_going.specs.Starts.{starting_of}
use Rattle.b67_going.proofs.Begins.{no_display, no_path, too_many, begins}
use Rattle.b67_going.proofs.starts.first_registers.Goals as goal

pub returns-in-Err-clause-leads : goal.returns-in-Err-clause-leads
returns-in-Err-clause-leads g c =
    let st = g.C.Core.stacks c.args.core.now in
    no_display st c.args.all.now c.args.regs.now c.args.started (starting_of st c.args.start.now) c.in-Err.stop (sym c.in-Err.is ∙ c.first_display.ensures)

pub returns-in-Err-on_path-clause-leads : goal.returns-in-Err-on_path-clause-leads
returns-in-Err-on_path-clause-leads g c =
    let st = g.C.Core.stacks c.args.core.now in
    no_path st c.args.all.now c.args.regs.now c.args.started (starting_of st c.args.start.now) c.in-Ok.display c.in-Err-on_path.stop
    (sym c.in-Ok.is ∙ c.first_display.ensures)
    (subst (λ (p : Place). TestLeads {A = Option Place} (on_path c.args.regs.now.stack (needed st c.args.start.now.needs) p) st c.args.all.now (Err c.in-Err-on_path.stop)) c.frame_of.ensures
    (subst (λ (a : Result (Option Place) Stop). TestLeads (on_path c.args.regs.now.stack (needed st c.args.start.now.needs) c.frame_of.result) st c.args.all.now a) c.in-Err-on_path.is c.on_path.ensures))

pub returns-then-started-ge-MOST_PROCESSES-clause-leads : goal.returns-then-started-ge-MOST_PROCESSES-clause-leads
returns-then-started-ge-MOST_PROCESSES-clause-leads g c =
    let st = g.C.Core.stacks c.args.core.now in
    too_many st c.args.all.now c.args.regs.now c.args.started (starting_of st c.args.start.now) c.in-Ok.display c.in-Ok-on_path.critical
    (sym c.in-Ok.is ∙ c.first_display.ensures)
    (subst (λ (p : Place). TestLeads {A = Option Place} (on_path c.args.regs.now.stack (needed st c.args.start.now.needs) p) st c.args.all.now (Ok c.in-Ok-on_path.critical)) c.frame_of.ensures
    (subst (λ (a : Result (Option Place) Stop). TestLeads (on_path c.args.regs.now.stack (needed st c.args.start.now.needs) c.frame_of.result) st c.args.all.now a) c.in-Ok-on_path.is c.on_path.ensures))
    c.if-started-ge-MOST_PROCESSES.true

pub returns-clause-leads : goal.returns-clause-leads
returns-clause-leads g c =
    let st = g.C.Core.stacks c.args.core.now in
    begins st c.args.all.now c.args.regs.now c.args.started (starting_of st c.args.start.now) c.in-Ok.display c.in-Ok-on_path.critical c.begun.result
    (sym c.in-Ok.is ∙ c.first_display.ensures)
    (subst (λ (p : Place). TestLeads {A = Option Place} (on_path c.args.regs.now.stack (needed st c.args.start.now.needs) p) st c.args.all.now (Ok c.in-Ok-on_path.critical)) c.frame_of.ensures
    (subst (λ (a : Result (Option Place) Stop). TestLeads (on_path c.args.regs.now.stack (needed st c.args.start.now.needs) c.frame_of.result) st c.args.all.now a) c.in-Ok-on_path.is c.on_path.ensures))
    c.if-started-ge-MOST_PROCESSES.false c.begun.ensures
