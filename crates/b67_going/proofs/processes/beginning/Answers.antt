use Rattle.std.proofs.Common.{Ok, Err}
use Rattle.b67_table.specs.Program.{asked}
use Rattle.b67_intrinsics.specs.Called.{arguments, mark_below}
use Rattle.b67_going.specs.Starts.{starting_of, beginning}
use Rattle.b67_going.proofs.Started.{beginning_exit, nothing_given, not_chained, no_registers, all_found, sees}
use Rattle.b67_going.proofs.processes.beginning.Goals as goal

pub returns-in_err-start-clause-told : goal.returns-in_err-start-clause-told
returns-in_err-start-clause-told g c = λ img s e t u.
    let r = c.args.regs.now in
    let words = arguments img.stacks r in
    beginning_exit (g.C.Core.stacks c.args.core.now) (asked img (beginning r c.args.mark.now words)) c.from_residual.result c.in_err-start.field-0.0 c.from_residual.ensures.1
    (nothing_given img r c.args.mark.now words c.in_err-start.field-0.0 (c.in_err-start.ensures.told img s e))

pub returns-in_err-chained-clause-told : goal.returns-in_err-chained-clause-told
returns-in_err-chained-clause-told g c = λ img s e t u.
    let r = c.args.regs.now in
    let st = g.C.Core.stacks c.args.core.now in
    let words = arguments img.stacks r in
    beginning_exit st (asked img (beginning r c.args.mark.now words)) c.from_residual-in_err-chained.result c.in_err-chained.field-0.0 c.from_residual-in_err-chained.ensures.1
    (not_chained img r c.args.mark.now words (starting_of st c.in_ok-start.start) (c.in_ok-start.ensures.told img s e) c.in_err-chained.field-0.0
    (sees img (mark_below r c.args.mark.now) st (Err c.in_err-chained.field-0.0) s c.in_err-chained.ensures.value))

pub returns-in_err-first-clause-told : goal.returns-in_err-first-clause-told
returns-in_err-first-clause-told g c = λ img s e t u.
    let r = c.args.regs.now in
    let st = g.C.Core.stacks c.args.core.now in
    let words = arguments img.stacks r in
    beginning_exit st (asked img (beginning r c.args.mark.now words)) c.from_residual-in_err-first.result c.in_err-first.field-0.0 c.from_residual-in_err-first.ensures.1
    (no_registers img r c.args.mark.now words (starting_of st c.in_ok-start.start) (c.in_ok-start.ensures.told img s e) c.in_ok-chained.field-0 c.args.started
    (sees img (mark_below r c.args.mark.now) st (Ok c.in_ok-chained.field-0) s c.in_ok-chained.ensures.value) u c.in_err-first.field-0.0
    (c.in_err-first.ensures.leads.told img s t))

pub returns-clause-told : goal.returns-clause-told
returns-clause-told g c = λ img s e t u.
    let r = c.args.regs.now in
    let st = g.C.Core.stacks c.args.core.now in
    let words = arguments img.stacks r in
    all_found img r c.args.mark.now words (starting_of st c.in_ok-start.start) (c.in_ok-start.ensures.told img s e) c.in_ok-chained.field-0 c.args.started
    (sees img (mark_below r c.args.mark.now) st (Ok c.in_ok-chained.field-0) s c.in_ok-chained.ensures.value) u c.in_ok-first.first
    (c.in_ok-first.ensures.leads.told img s t)
